-- What stays of the lease and of the store from label to label.
use Rattle.std.proofs.Common.{◌≡◌, ◌∙◌, ℕ, List, Option, sym, ap}
use Rattle.key_cells.specs.Lease.{bench_of}
use Rattle.key_cells.specs.declared.leases.Lease.{Lease}
use Rattle.record_bodies.specs.StoreStands.{KeepsLabels}
use Rattle.record_bodies.specs.declared.rows.Row.{Row}
use Rattle.master_registers.specs.Loaded.{Loaded}
use Rattle.master_registers.specs.Masters.{Masters}
use Rattle.master_registers.specs.declared.registers.Registers.{Registers}
use Rattle.device_cells.specs.Medium.{Medium, Told}
use Rattle.device_cells.proofs.Media.{told_at, told_from}
use Rattle.verb_rules.specs.Keys.{keys_of, master_for, opened, opened_by}
use Rattle.verb_rules.specs.declared.judging.Judged.{Judged}
use Rattle.cca_machine.specs.State.{State}
use Rattle.store_unload.specs.Telling.{KeepsMasters}

pub masters_then : (a b c : Lease) → KeepsMasters a b → KeepsMasters b c → KeepsMasters a c
masters_then a b c first second = record {
  current = second.current ∙ first.current;
  former = second.former ∙ first.former;
  coming = second.coming ∙ first.coming;
  loan = second.loan ∙ first.loan;
}

module _ (old new : Lease) (kept : KeepsMasters old new) where
  -- the registers are still in the bench
  pub loaded_later : (m : Masters) (held : Registers) → Loaded m held (bench_of old) → Loaded m held (bench_of new)
  loaded_later m held loaded = record {
    valid = loaded.valid;
    placed = record {
      coming = kept.coming ∙ loaded.placed.coming;
      current = kept.current ∙ loaded.placed.current;
      former = kept.former ∙ loaded.placed.former;
    };
    told = loaded.told;
  }

  -- a judged token still stands for the same key
  pub opened_later : (judged : Judged) → opened (bench_of new) judged ≡ opened (bench_of old) judged
  opened_later judged =
      ap (λ (current : List ℕ). opened_by (master_for current (bench_of new).former judged.age) judged) kept.current
      ∙ ap (λ (former : List ℕ). opened_by (master_for (bench_of old).current former judged.age) judged) kept.former

-- a store that keeps its content still stands for the labels
pub labels_later : (m0 m1 : Medium) (s : State) (rows : List (Option Row)) → m1.content ≡ m0.content
    → Told m0 (KeepsLabels (keys_of s.registers) rows s.labels) → Told m1 (KeepsLabels (keys_of s.registers) rows s.labels)
labels_later m0 m1 s rows same told =
    told_from m1.content (KeepsLabels (keys_of s.registers) rows s.labels) (λ image is.
    told_at m0.content (KeepsLabels (keys_of s.registers) rows s.labels) image (sym same ∙ is) told)
