use Rattle.std.proofs.Common.{◌-◌, length, slice_index, ap, arith}
use Rattle.des_blocks.specs.Texts.{text_in}
use Rattle.key_cells.specs.Lease.{bench_of}
use Rattle.cipher_verbs.specs.CipherTexts.{cleared}
use Rattle.cipher_verbs.proofs.PaddingLemmas.{counted, many_counted, none_counted, text_stays}
use Rattle.cipher_verbs.proofs.padding.remove_padding.Goals as goal
use Rattle.cipher_verbs.proofs.padding.remove_padding.Goals.{then-count-eq0-via-then-count-eq0, then-count-eq0-via-else-count-eq0+then-count-gt-BLOCK}

pub overflow_sub-count : goal.overflow_sub-count
overflow_sub-count c = omega (arith, c.requires.blocks, c.text-size.ensures.size)

pub bounds-text-size : goal.bounds-text-size
bounds-text-size c = omega (arith, c.requires.blocks, c.text-size.ensures.size, c.text.ensures.size)

pub returns-then-count-eq0-clause-refused : goal.returns-then-count-eq0-clause-refused
returns-then-count-eq0-clause-refused c = elim c.then-count-eq0.branch [
  | then-count-eq0-via-then-count-eq0 w ↦
      none_counted (text_in c.args.lease.now) c.text-size.result.now c.text.result.now c.text-size.ensures.value c.text.ensures.value
      w.if-count-eq0.true
  | then-count-eq0-via-else-count-eq0+then-count-gt-BLOCK w ↦
      many_counted (text_in c.args.lease.now) c.text-size.result.now c.text.result.now c.text-size.ensures.value c.text.ensures.value
      w.if-count-gt-BLOCK.true
]

pub returns-then-count-eq0-clause-cleared : goal.returns-then-count-eq0-clause-cleared
returns-then-count-eq0-clause-cleared c = ap (λ l. (bench_of l).text) c.clear_text.ensures

pub returns-then-count-eq0-clause-stays : goal.returns-then-count-eq0-clause-stays
returns-then-count-eq0-clause-stays c =
    text_stays c.args.lease.now c.clear_text.new.lease (cleared (bench_of c.args.lease.now).text) c.clear_text.ensures

pub returns-then-count-eq0-clause-room : goal.returns-then-count-eq0-clause-room
returns-then-count-eq0-clause-room c = omega (arith, ap (λ l. (bench_of l).text.size) c.clear_text.ensures)

pub overflow_sub-size : goal.overflow_sub-size
overflow_sub-size c = omega (arith, c.if-count-gt-BLOCK.false, c.requires.blocks, c.text-size.ensures.size)

pub set_text_length-requires : goal.set_text_length-requires
set_text_length-requires c = omega (arith, c.requires.room, c.text-size.ensures.size)

pub returns-clause-text : goal.returns-clause-text
returns-clause-text c =
    counted (bench_of c.args.lease.now).text (bench_of c.set_text_length.new.self).text c.text-size.result.now c.text.result.now
    c.text-size.ensures.value c.text.ensures.value
    c.text-size.ensures.size (ap (λ l. (bench_of l).text) c.set_text_length.ensures) (omega (arith, c.if-count-eq0.false)) c.if-count-gt-BLOCK.false

pub returns-clause-room : goal.returns-clause-room
returns-clause-room c = omega (arith, ap (λ l. (bench_of l).text.size) c.set_text_length.ensures, c.requires.room, c.text-size.ensures.size)

pub returns-clause-stays : goal.returns-clause-stays
returns-clause-stays c =
    let size = length c.text-size.result.now - slice_index c.text.result.now (length c.text-size.result.now - 1) in
    text_stays c.args.lease.now c.set_text_length.new.self (record (bench_of c.args.lease.now).text { size = size }) c.set_text_length.ensures
