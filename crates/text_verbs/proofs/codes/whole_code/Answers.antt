use Rattle.std.proofs.Common.{rules}
use Rattle.text_verbs.proofs.KeyedRows.{whole_code_keyed}
use Rattle.cca_machine.proofs.Settling.{keyed_settles}
use Rattle.text_verbs.proofs.codes.whole_code.Goals as goal

pub returns-in-Err : goal.returns-in-Err
returns-in-Err c = record {
  settles = λ role key held rows.
      keyed_settles (whole_code_keyed c.args.purpose role key c.args.rule.now c.args.text.now)
      c.key_in-key.ensures.is c.key_in-key.ensures.under (search rules);
}

pub returns : goal.returns
returns c = record {
  settles = λ role key held rows.
      keyed_settles (whole_code_keyed c.args.purpose role key c.args.rule.now c.args.text.now)
      c.key_in-key.ensures.is c.key_in-key.ensures.under (search rules);
}
