use Rattle.key_records.proofs.parsing.both_in.Given as goal

abbrev pub ghost-kept_pattern : goal.ghost-kept_pattern
ghost-kept_pattern g a = g.m

abbrev pub ghost-are_pair : goal.ghost-are_pair
ghost-are_pair g a = g.m
