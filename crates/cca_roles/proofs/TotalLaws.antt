-- A module stands for a table of roles, or else it has a first damaged cell.
use Rattle.std.proofs.Common.{◌≡◌, ◌≢◌, ◌≤◌, ◌<◌, ◌+◌, ◌⊎◌, inl, inr, ⊎_elim, ℕ, zero, suc, Bool, true, false, List, set, Option, None, Some, refl, sym, ap, subst, arith}
use Rattle.std.specs.Prelude.{is_some}
use Rattle.device_cells.specs.Cells.{body}
use Rattle.cca_roles.specs.Directory.{AreApart, place_of}
use Rattle.cca_roles.specs.Opening.{OpenedTo}
use Rattle.cca_roles.specs.RoleBody.{ReadsPlace, slot_in}
use Rattle.cca_roles.specs.RoleNames.{default_name}
use Rattle.cca_roles.specs.Roles.{AreRoles, names, name_of, blank_roles}
use Rattle.cca_roles.specs.RolesStand.{StandsForRoles, roles_in, IsFirstDamaged}
use Rattle.cca_roles.specs.declared.roles.Role.{Role}
use Rattle.cca_roles.proofs.BodyLaws.{ReadsNothing, decided_place}
use Rattle.cca_roles.proofs.DirectoryLaws.{apart_set, apart_none, apart_same, held_somewhere, held_nowhere}
use Rattle.cca_roles.proofs.OpeningLaws.{opened_first, opened_more, opened_all, refused_damaged, first_damaged}
use Rattle.cca_roles.proofs.StandLaws.{stands_one}
use Rattle.cca_roles.proofs.TableLaws.{blank_table, table_set}

-- what the first place reads as is DEFAULT
pub default_read : (bytes : List ℕ) (slot : Option Role) → ReadsPlace 0 bytes slot → name_of slot ≡ Some default_name
default_read bytes None reads = absurd reads
default_read bytes (Some r) reads = ap (λ n. Some n) reads.0

-- DEFAULT may stand in the first place of a table
pub default_apart : (slot : Option Role) → name_of slot ≡ Some default_name → AreApart (set (names blank_roles) 0 (name_of slot))
default_apart slot is = subst (λ (o : Option (List ℕ)). AreApart (set (names blank_roles) 0 o)) (sym is) (apart_same (names blank_roles) 0 default_name blank_table.apart refl)

module _ (image : List ℕ) where
  abbrev Come : ℕ → Type 0
  Come n = (roles : List (Option Role)) × OpenedTo image n roles × AreRoles roles

  abbrev Stuck : Type 0
  Stuck = (cell : ℕ) × IsFirstDamaged image cell

  come_more : (n : ℕ) (slot : Option Role) (c : Come n) → n < 32 → n ≢ 0 → slot_in n (body image (n + 1)) ≡ slot → ReadsPlace n (body image (n + 1)) (slot_in n (body image (n + 1))) → AreApart (set (names c.0) n (name_of slot)) → Come (n + 1)
  come_more n slot c below later is reads apart =
      let here : Option Role = slot_in n (body image (n + 1)) in (
        set c.0 n here,
        opened_more image n c.0 c.1 (set c.0 n here) (omega (arith, c.2.size, below)) (record { reads = reads; known = refl }),
        table_set c.0 c.0 n here c.2 refl (λ first. absurd (later first)) (subst (λ (l : Option (List ℕ)). AreApart (set (names c.0) n l)) (sym (ap name_of is)) apart),
      )

  step : (n : ℕ) (slot : Option Role) → n < 32 → n ≢ 0 → Come n → slot_in n (body image (n + 1)) ≡ slot → ReadsPlace n (body image (n + 1)) (slot_in n (body image (n + 1))) → Come (n + 1) ⊎ Stuck
  step n None below later c is reads = inl (come_more n None c below later is reads (apart_none (names c.0) n c.2.apart))
  step n (Some r) below later c is reads = by_held (is_some (place_of r.name (names c.0))) refl
    where
      by_held : (b : Bool) → is_some (place_of r.name (names c.0)) ≡ b → Come (n + 1) ⊎ Stuck
      by_held true held = let there = held_somewhere r.name (names c.0) held in
          inr (n + 1, refused_damaged image n c.0 c.1 c.2 below (inr (r, subst (ReadsPlace n (body image (n + 1))) is reads, there)))
      by_held false missing = inl (come_more n (Some r) c below later is reads (apart_set (names c.0) n r.name c.2.apart (held_nowhere r.name (names c.0) missing)))

  first : Come 1 ⊎ Stuck
  first = ⊎_elim
      (λ (reads : ReadsPlace 0 (body image 1) (slot_in 0 (body image 1))).
      let here : Option Role = slot_in 0 (body image 1) in
      let named : name_of here ≡ Some default_name = default_read (body image 1) here reads in
      inl (set blank_roles 0 here, opened_first image (set blank_roles 0 here) reads refl, table_set blank_roles blank_roles 0 here blank_table refl (λ _. named) (default_apart here named)))
      (λ (nothing : ReadsNothing 0 (body image 1)). inr (1, first_damaged image nothing))
      (decided_place 0 (body image 1))

  -- the first place and n more
  scan : (n : ℕ) → n ≤ 31 → Come (1 + n) ⊎ Stuck
  scan zero within = first
  scan (suc n) within = ⊎_elim
      (λ (c : Come (1 + n)). ⊎_elim
      (λ (reads : ReadsPlace (1 + n) (body image (1 + n + 1)) (slot_in (1 + n) (body image (1 + n + 1)))).
      subst (λ (k : ℕ). Come k ⊎ Stuck) (omega arith) (step (1 + n) (slot_in (1 + n) (body image (1 + n + 1))) (omega (arith, within)) (omega arith) c refl reads))
      (λ (nothing : ReadsNothing (1 + n) (body image (1 + n + 1))). inr (1 + n + 1, refused_damaged image (1 + n) c.0 c.1 c.2 (omega (arith, within)) (inl nothing)))
      (decided_place (1 + n) (body image (1 + n + 1))))
      (λ (stuck : Stuck). inr stuck)
      (scan n (omega (arith, within)))

  pub stands_or_damaged : StandsForRoles image (roles_in image) ⊎ ((cell : ℕ) × IsFirstDamaged image cell)
  stands_or_damaged = ⊎_elim
      (λ (c : Come 32). let stands : StandsForRoles image c.0 = opened_all image c.0 c.1 c.2 in inl (subst (StandsForRoles image) (stands_one image c.0 stands) stands))
      (λ (stuck : Stuck). inr stuck) (scan 31 (omega arith))
