use Rattle.std.proofs.Common.{◌≡◌, ◌∙◌, [], ◌∷◌, refl, sym, ap, subst}
use Rattle.key_cells.specs.Lease.{bench_of}
use Rattle.master_registers.specs.Actions.{after_action}
use Rattle.master_registers.specs.declared.actions.Action.{Action}
use Rattle.verb_script.specs.Values.{hex_value}
use Rattle.verb_script.specs.declared.rows.RequestName.TheVariants.{CsnbmkpPart}
use Rattle.cca_machine.specs.Act.{Become}
use Rattle.cca_machine.specs.Actions.{part_action}
use Rattle.cca_machine.specs.Decided.{Settles, asked}
use Rattle.cca_machine.specs.Deciding.{labels_after}
use Rattle.cca_machine.specs.declared.effects.Effect.TheVariants as code
use Rattle.cca_machine.proofs.Acting.{labels_kept, none_lost}
use Rattle.cca_machine.proofs.Settling.{left_settles, part_within}
use Rattle.request_verbs.proofs.verbs.csnbmkp.combine.Goals as goal

pub returns : goal.returns
returns c = record {
  settles = λ role granted held rows.
      let bench = bench_of c.put_part.new.lease in
      let action = c.args.action.now in
      let key_part = hex_value c.args.part.now in
      let request = asked CsnbmkpPart (role ∷ action ∷ c.args.part.now ∷ []) in
      let part : bench.part ≡ key_part = ap (λ l. (bench_of l).part) c.put_part.ensures in
      subst (λ (a : Action). Settles request granted held rows c.args.lease.now c.put_part.new.lease (code.Change a) []) (sym c.part_action_of.ensures)
      (left_settles (part_within c.args.lease.now c.put_part.new.lease key_part c.put_part.ensures) refl
      (λ s is.
      let becomes : Become (after_action (part_action action) key_part s.registers) s.labels
      ≡ Become (after_action (part_action action) bench.part s.registers) (labels_after (part_action action) s) =
      ap (λ p. Become (after_action (part_action action) p s.registers) s.labels) (sym part)
      ∙ ap (Become (after_action (part_action action) bench.part s.registers)) (sym (labels_kept action s)) in
      (refl, becomes, none_lost action s, refl))
      refl (λ writes. absurd writes) (λ through. absurd through));
}
