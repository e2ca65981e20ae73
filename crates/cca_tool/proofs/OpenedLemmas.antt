-- What opening the disks comes to, told as its stops alone.
use Rattle.std.proofs.Common.{◌≡◌, ℕ, None, Result, Ok, Err, refl, sym, subst}
use Rattle.std.specs.Prelude.{IsOk}
use Rattle.cca_machine.specs.Coprocessor.{cca}
use Rattle.device_cells.specs.Medium.{Medium}
use Rattle.line_service.specs.Devices.{DamageTold, Devices, OpeningLeft, Span, devices}
use Rattle.line_service.specs.declared.stops.Stop.{Stop}
use Rattle.store_unload.proofs.OpeningLemmas.{damage_as, left_as}

module _ {T : Type 0} (r : Result T Stop) (m0 : Medium) (mf0 : ℕ) (m1 : Medium) (mf1 : ℕ) (d0 : Medium) (df0 : ℕ) (d1 : Medium) (df1 : ℕ) where
  -- the disks before and after, with no random source
  abbrev both : Span Devices
  both = record { old = devices m0 mf0 d0 df0 None 0; new = devices m1 mf1 d1 df1 None 0 }

  no_stop : (held : T) (stop : Stop) → r ≡ Ok held → r ≡ Err stop → ⊥
  no_stop held stop is h = cc (h, is)

  ok_no_stop : (stop : Stop) → ◌≡◌ {A = Result (Unit {0}) Stop} (Ok tt) (Err stop) → ⊥
  ok_no_stop stop h = cc h

  -- ---- they were opened

  pub opened_damage : (held : T) → r ≡ Ok held → DamageTold cca r both → DamageTold {T = Unit {0}} cca (Ok tt) both
  opened_damage held is =
      damage_as r (Ok tt) both (λ stop h. absurd (no_stop held stop is h)) (λ stop h. absurd (ok_no_stop stop h))

  pub opened_left : (held : T) → r ≡ Ok held → OpeningLeft r both → OpeningLeft {T = Unit {0}} (Ok tt) both
  opened_left held is =
      left_as r (Ok tt) both (λ stop h. absurd (no_stop held stop is h)) (λ stop h. absurd (ok_no_stop stop h)) (λ ok. subst IsOk (sym is) refl)

  -- ---- they weren't

  onto : (stop other : Stop) → r ≡ Err stop → r ≡ Err other → ◌≡◌ {A = Result (Unit {0}) Stop} (Err stop) (Err other)
  onto stop other is h = cc (h, is)

  back : (stop other : Stop) → r ≡ Err stop → ◌≡◌ {A = Result (Unit {0}) Stop} (Err stop) (Err other) → r ≡ Err other
  back stop other is h = cc (h, is)

  never_ok : (q : Result (Unit {0}) Stop) (stop : Stop) → q ≡ Err stop → IsOk q → ⊥
  never_ok (Ok done) stop is ok = cc is
  never_ok (Err other) stop is ok = cc ok

  pub stopped_damage : (stop : Stop) → r ≡ Err stop → DamageTold cca r both → DamageTold {T = Unit {0}} cca (Err stop) both
  stopped_damage stop is = damage_as r (Err stop) both (λ other h. onto stop other is h) (λ other h. back stop other is h)

  pub stopped_left : (stop : Stop) → r ≡ Err stop → OpeningLeft r both → OpeningLeft {T = Unit {0}} (Err stop) both
  stopped_left stop is =
      left_as r (Err stop) both (λ other h. onto stop other is h) (λ other h. back stop other is h) (λ ok. absurd (never_ok (Err stop) stop refl ok))
