use Rattle.key_records.proofs.parsing.key_in.Given as goal

abbrev pub ghost-kept_pattern : goal.ghost-kept_pattern
ghost-kept_pattern g a = g.m
