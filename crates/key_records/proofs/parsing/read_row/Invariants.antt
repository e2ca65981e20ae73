use Rattle.key_records.proofs.parsing.read_row.Given as goal

abbrev pub ghost-read_record : goal.ghost-read_record
ghost-read_record g a = g.m
