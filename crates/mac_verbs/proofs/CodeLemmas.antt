-- The length of the key of a code, and the schedules that hold it.
use Rattle.std.proofs.Common.{◌≡◌, ℕ, List, [], length, take, drop, eqb, None, sym, subst}
use Rattle.std.proofs.lemmas.Bool.{eqb-true}
use Rattle.cca_vectors.specs.Checks.{first_failing}
use Rattle.cca_vectors.proofs.Judging.{passes_first}
use Rattle.des_blocks.specs.Schedules.{IsOf, schedule_at}
use Rattle.key_cells.specs.declared.schedules.Schedule.{Schedule}
use Rattle.verb_rules.specs.declared.lengths.MacRule.{MacRule}
use Rattle.verb_rules.specs.LengthChecks.{mac_checks, mac_key_length}
use Rattle.verb_rules.specs.Scheduled.{HoldKey}
use Rattle.verb_rules.proofs.KeyLemmas.{double_right, single_held}

pub mac_length : (rule : MacRule) (size : ℕ) → first_failing (mac_checks rule size) ≡ None → size ≡ mac_key_length rule
mac_length rule size passes = eqb-true size (mac_key_length rule) (passes_first 32 (eqb size (mac_key_length rule)) [] passes)

-- the first schedule of a single-length key
pub single_schedule : (held schedules : List Schedule) (key : List ℕ) → length key ≡ 8 → held ≡ schedules → HoldKey schedules key → IsOf (schedule_at held 0) key
single_schedule held schedules key long is hold =
    subst (λ s. IsOf (schedule_at s 0) key) (sym is) (single_held schedules key long hold)

-- the first two schedules of a double-length key
pub left_schedule : (held schedules : List Schedule) (key : List ℕ) → held ≡ schedules → HoldKey schedules key → IsOf (schedule_at held 0) (take 8 key)
left_schedule held schedules key is hold = subst (λ s. IsOf (schedule_at s 0) (take 8 key)) (sym is) hold.first

pub right_schedule : (held schedules : List Schedule) (key : List ℕ) → length key ≡ 16 → held ≡ schedules → HoldKey schedules key → IsOf (schedule_at held 1) (drop 8 key)
right_schedule held schedules key long is hold =
    subst (λ s. IsOf (schedule_at s 1) (drop 8 key)) (sym is) (subst (IsOf (schedule_at schedules 1)) (sym (double_right key long)) hold.second)
