-- The sections stand one behind the other.
use Rattle.command_words.proofs.DemoLemmas.{text_is}
use Rattle.std.proofs.Common.{◌++◌, ◌∙◌, ap}
use Rattle.command_words.specs.Demo.{joined, key_set, first_part}
use Rattle.command_words.proofs.demo_lines.lines_of.Goals as goal

pub returns : goal.returns
returns c =
    text_is c.args.number c.put_key_set.new.text.items c.put_section.new.text.items c.put_section-2.new.text.items c.put_key_set-2.new.text.items
    c.put_tested.new.text.items c.put_line.new.text.items c.put_section-3.new.text.items c.put_section-4.new.text.items
    c.put_line-2.new.text.items c.put_line-3.new.text.items
    (c.in_ok-put_key_set.ensures ∙ ap (λ x. x ++ joined (key_set first_part)) c.new-text.ensures.items)
    c.in_ok-put_section.ensures c.in_ok-put_section-2.ensures c.in_ok-put_key_set-2.ensures c.in_ok-put_tested.ensures c.in_ok-put_line.ensures
    c.in_ok-put_section-3.ensures c.in_ok-put_section-4.ensures c.in_ok-put_line-2.ensures c.in_ok-put_line-3.ensures
