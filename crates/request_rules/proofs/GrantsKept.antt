-- What stays of the operands where the body of a cell is read: the registers in the bench, and what was granted.
use Rattle.std.proofs.Common.{◌≡◌, ℕ, List, sym, ap, subst}
use Rattle.key_cells.specs.Bench.{Bench}
use Rattle.key_cells.specs.Lease.{bench_of}
use Rattle.key_cells.specs.declared.leases.Lease.{Lease}
use Rattle.key_records.specs.Changes.{KeepsAllButBody}
use Rattle.master_registers.specs.Loaded.{Loaded}
use Rattle.master_registers.specs.Masters.{Masters}
use Rattle.master_registers.specs.declared.registers.Registers.{Registers}
use Rattle.cca_machine.specs.Operands.{Operands}
use Rattle.cca_machine.specs.State.{State}
use Rattle.cca_machine.specs.declared.asking.Ask.{Ask}
use Rattle.cca_machine.specs.declared.asking.Ask.TheVariants.{AnyToken, External, Key, Token, Record, Held, NewLabel, Target, Nothing}
use Rattle.cca_machine.specs.Granted.{IsGranted, AreGranted}
use Rattle.cca_machine.specs.declared.granted.Grant.{Grant}
use Rattle.cca_machine.specs.declared.granted.Granted.{Granted}

abbrev with_body : Bench → List ℕ → Bench
with_body bench bytes = record bench { body = bytes }

grant_kept : (s : State) (bench : Bench) (bytes text : List ℕ) (ask : Ask) (grant : Grant) → IsGranted s bench text ask grant
    → IsGranted s (with_body bench bytes) text ask grant
grant_kept s bench bytes text AnyToken grant granted = granted
grant_kept s bench bytes text (Key need) grant granted = record { judged = granted.judged; is = granted.is; key_is = granted.key_is }
grant_kept s bench bytes text (Token need) grant granted = record { judged = granted.judged; is = granted.is; key_is = granted.key_is }
grant_kept s bench bytes text (External need) grant granted = granted
grant_kept s bench bytes text Record grant granted =
    record { has = record { judged = granted.has.judged; is = granted.has.is; key_is = granted.has.key_is }; age = granted.age }
grant_kept s bench bytes text Held grant granted = granted
grant_kept s bench bytes text NewLabel grant granted = granted
grant_kept s bench bytes text Target grant granted = granted
grant_kept s bench bytes text Nothing grant granted = granted

bench_is : (old new : Lease) → KeepsAllButBody old new → bench_of new ≡ with_body (bench_of old) (bench_of new).body
bench_is old new keeps = ap bench_of keeps

pub grants_kept : (s : State) (old new : Lease) (os : Operands) (g : Granted) → KeepsAllButBody old new → AreGranted s (bench_of old) os g → AreGranted s (bench_of new) os g
grants_kept s old new os g keeps granted = subst (λ (b : Bench). AreGranted s b os g) (sym (bench_is old new keeps)) (
  grant_kept s (bench_of old) (bench_of new).body os.first.text os.first.ask g.first granted.0,
  grant_kept s (bench_of old) (bench_of new).body os.second.text os.second.ask g.second granted.1,
  grant_kept s (bench_of old) (bench_of new).body os.third.text os.third.ask g.third granted.2,
)

pub loaded_kept : (m : Masters) (held : Registers) (old new : Lease) → KeepsAllButBody old new → Loaded m held (bench_of old) → Loaded m held (bench_of new)
loaded_kept m held old new keeps loaded = subst (λ (b : Bench). Loaded m held b) (sym (bench_is old new keeps)) (record {
  valid = loaded.valid;
  placed = record { coming = loaded.placed.coming; current = loaded.placed.current; former = loaded.placed.former };
  told = loaded.told;
})
