use Rattle.std.proofs.Common.{◌≡◌, Option, sym, subst, ◌∙◌}
use Rattle.std.specs.Prelude.{IsSome}
use Rattle.key_cells.specs.Lease.{bench_of}
use Rattle.key_tokens.specs.Denotes.{Denoted}
use Rattle.key_tokens.specs.declared.key_token.Asked.{Asked}
use Rattle.key_tokens.specs.declared.key_token.Asked.TheVariants.{Internal, Either}
use Rattle.master_registers.specs.Loaded.{masters_in}
use Rattle.key_records.proofs.ReadLaws.{some_mapped}
use Rattle.record_rows.proofs.changing.write.Goals as goal

not_either : (asked : Asked) → asked ≡ Internal → asked ≡ Either → ⊥
not_either asked is other = let both : Internal ≡ Either = sym is ∙ other in cc

pub judge_key-requires : goal.judge_key-requires
judge_key-requires g c = record { asked = not_either c.any_internal.result.asked c.any_internal.ensures }

pub write-requires-clause-key : goal.write-requires-clause-key
write-requires-clause-key g c =
    subst (λ (o : Option Denoted). IsSome o)
    (sym (c.in-Ok.ensures.denoted (masters_in c.args.held.now (bench_of c.args.lease.now)) (bench_of c.args.lease.now) c.requires.loaded c.any_internal.ensures))
    (some_mapped _ c.in-Ok.field-0.age ∙ c.in-Ok.ensures.internal c.any_internal.ensures)
