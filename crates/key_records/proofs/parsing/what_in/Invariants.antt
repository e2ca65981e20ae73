use Rattle.key_records.proofs.parsing.what_in.Given as goal

abbrev pub ghost-key_in : goal.ghost-key_in
ghost-key_in g a = g.m

abbrev pub ghost-both_in : goal.ghost-both_in
ghost-both_in g a = g.m
