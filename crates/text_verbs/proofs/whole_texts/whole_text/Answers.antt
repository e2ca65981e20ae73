use Rattle.text_verbs.proofs.KeyedRows.{whole_keyed}
use Rattle.cca_machine.proofs.Settling.{keyed_settles}
use Rattle.text_verbs.proofs.whole_texts.whole_text.Goals as goal

pub returns : goal.returns
returns c = record {
  settles = λ role key held rows.
      keyed_settles (whole_keyed c.args.mode c.requires.mode role key c.args.iv.now c.args.pad.now c.args.text.now)
      c.key_in.ensures.is c.key_in.ensures.under c.show_changed.ensures.shows;
}
