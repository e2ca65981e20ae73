use Rattle.key_records.proofs.parsing.read_record.Given as goal

abbrev pub ghost-what_in : goal.ghost-what_in
ghost-what_in g a = g.m
