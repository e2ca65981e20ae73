-- A module and a store stand for one state, or have a first damaged cell.
use Rattle.std.proofs.Common.{◌≡◌, ◌≢◌, ◌⊎◌, inl, inr, ⊎_elim, ℕ, zero, suc, ◌+◌, ◌-◌, ◌<◌, ◌≤◌, true, false, List, length, drop, replicate, Option, None, Some, refl, sym, ap, subst, ◌∙◌, arith}
use Rattle.std.specs.Prelude.{slice_range, slice_index, bytes_eq}
use Rattle.std.proofs.lemmas.Bool.{cases_lt, cases_Bool}
use Rattle.std.proofs.lemmas.List.{get_or-replicate, get_or_past}
use Rattle.std.proofs.lemmas.List.Elements.{All-take, All-drop}
use Rattle.std.proofs.lemmas.Slice.Eq.{bytes_eq-Decides}
use Rattle.key_cells.specs.Bytes.{AreBytes}
use Rattle.device_cells.specs.Cells.{body, body_place, selected}
use Rattle.device_cells.proofs.CellSteps.{selected_below, length-range}
use Rattle.cca_roles.specs.RolesStand.{StandsForRoles, roles_in}
use Rattle.cca_roles.specs.declared.roles.Role.{Role}
use Rattle.cca_roles.proofs.StandLaws.{stands_one as roles_one, stands_undamaged as roles_undamaged}
use Rattle.cca_roles.proofs.TotalLaws.{stands_or_damaged as roles_or_damaged}
use Rattle.record_bodies.specs.Entries.{Entry}
use Rattle.record_bodies.specs.StoreStands.{StandsForLabels, labels_in}
use Rattle.record_bodies.proofs.OpeningLaws.{stands_one as labels_one, stands_undamaged as labels_undamaged}
use Rattle.record_bodies.proofs.TotalLaws.{stands_or_damaged as labels_or_damaged}
use Rattle.master_registers.specs.BodyForm.{coming_at, kept_at, masters_at, IsBody, AreMasterKeys}
use Rattle.master_registers.specs.Masters.{Masters, IsMaster, AreApart, blank_masters, new_bytes, kept_bytes, pattern_of_master}
use Rattle.master_registers.specs.RegisterBody.{registers_body, blank_body, ReadsMasters}
use Rattle.master_registers.proofs.BodyLaws.{reads_one, masters-again, master_piece}
use Rattle.verb_rules.specs.Keys.{keys_of}
use Rattle.cca_machine.specs.Pairs.{ArePairOf, IsBrokenPair}
use Rattle.cca_machine.specs.State.{State}

-- ---- cell 0 reads as some registers, or as none

zeros : IsMaster (replicate 24 0)
zeros = record { size = refl; each = λ k d within. subst (λ (b : ℕ). b < 256) (sym (get_or-replicate 24 k 0 d within)) (omega arith) }

new_is : (n : ℕ) (bytes : List ℕ) → IsMaster bytes → IsMaster (new_bytes (coming_at n bytes))
new_is zero bytes is = zeros
new_is (suc zero) bytes is = is
new_is (suc (suc n)) bytes is = is

kept_is : (n : ℕ) (bytes : List ℕ) → IsMaster bytes → IsMaster (kept_bytes (kept_at n bytes))
kept_is zero bytes is = zeros
kept_is (suc n) bytes is = is

keys_at : (bytes : List ℕ) → IsBody bytes → AreMasterKeys (masters_at bytes)
unfolding masters_at
keys_at bytes is = record {
  coming = new_is (slice_index bytes 1) (slice_range bytes 8 32) (master_piece bytes 8 is (omega arith));
  current = kept_is (slice_index bytes 2) (slice_range bytes 32 56) (master_piece bytes 32 is (omega arith));
  former = kept_is (slice_index bytes 3) (slice_range bytes 56 80) (master_piece bytes 56 is (omega arith));
}

same_or_not : (xs ys : List ℕ) → (xs ≡ ys) ⊎ (xs ≢ ys)
same_or_not xs ys = ⊎_elim
    (λ (is : bytes_eq xs ys ≡ true). inl ((bytes_eq-Decides xs ys).0 is))
    (λ (other : bytes_eq xs ys ≡ false). inr (λ same. let both : true ≡ false = sym ((bytes_eq-Decides xs ys).1 same) ∙ other in cc both))
    (cases_Bool (bytes_eq xs ys))

apart_or_not : (current former : Option (List ℕ)) → AreApart current former ⊎ (AreApart current former → ⊥)
apart_or_not current None = inl tt
apart_or_not None (Some old) = inr (λ apart. apart)
apart_or_not (Some current) (Some old) = ⊎_elim
    (λ same. inr (λ apart. apart same))
    (λ other. inl other)
    (same_or_not (pattern_of_master current) (pattern_of_master old))

abbrev Reads : List ℕ → Type 0
Reads bytes = (m : Masters) × ReadsMasters bytes m

abbrev ReadsNothing : List ℕ → Type 0
ReadsNothing bytes = (m : Masters) → ReadsMasters bytes m → ⊥

reads_or_not : (bytes : List ℕ) → IsBody bytes → Reads bytes ⊎ ReadsNothing bytes
reads_or_not bytes is = ⊎_elim
    (λ (blank : bytes ≡ blank_body). inl (blank_masters, inl (blank, refl)))
    (λ (some : bytes ≢ blank_body). ⊎_elim
    (λ (table : bytes ≡ registers_body (masters_at bytes)). ⊎_elim
    (λ (apart : AreApart (masters_at bytes).current (masters_at bytes).former).
    let keys = keys_at bytes is in
    inl (masters_at bytes, inr (table, record { coming = keys.coming; current = keys.current; former = keys.former; apart = apart })))
    (λ close. inr (λ m reads. ⊎_elim
    (λ blank. some blank.0)
    (λ one. close (subst (λ (n : Masters). AreApart n.current n.former) (sym (masters-again m one.1) ∙ ap masters_at (sym one.0)) one.1.apart))
    reads))
    (apart_or_not (masters_at bytes).current (masters_at bytes).former))
    (λ other. inr (λ m reads. ⊎_elim
    (λ blank. some blank.0)
    (λ one. other (one.0 ∙ ap registers_body (sym (masters-again m one.1) ∙ ap masters_at (sym one.0))))
    reads))
    (same_or_not bytes (registers_body (masters_at bytes))))
    (same_or_not bytes blank_body)

-- ---- the bytes of a module

cell_bytes : (image : List ℕ) → AreBytes 50688 image → AreBytes 192 (body image 0)
unfolding body
cell_bytes image are =
    let at : ℕ = body_place 0 (selected image 0) in
    let low : at + 192 ≤ 50688 = omega (arith, selected_below image 0) in
    record {
      size = omega (arith, length-range image at 192, are.size, low);
      each = All-take (λ b. b < 256) (at + 192 - at) (drop at image) (All-drop (λ b. b < 256) at image are.each);
    }

is_body : (bytes : List ℕ) → AreBytes 192 bytes → IsBody bytes
is_body bytes are = record {
  size = are.size;
  each = λ k. ⊎_elim
      (λ (within : k < length bytes). are.each k 0 within)
      (λ (past : length bytes ≤ k). subst (λ (b : ℕ). b < 256) (sym (get_or_past bytes k 0 past)) (omega arith))
      (cases_lt k (length bytes));
}

-- ---- a module and a store

abbrev made : Masters → List (Option Role) → List (Option Entry) → State
made registers roles labels = record { registers = registers; roles = roles; labels = labels }

pub pair_one : (s t : State) (c d : List ℕ) → ArePairOf s c d → ArePairOf t c d → s ≡ t
pair_one s t c d first second =
    let registers : s.registers ≡ t.registers = reads_one (body c 0) s.registers t.registers first.module.registers second.module.registers in
    let roles : s.roles ≡ t.roles = roles_one c s.roles first.module.roles ∙ sym (roles_one c t.roles second.module.roles) in
    let labels : s.labels ≡ t.labels =
    labels_one (keys_of t.registers) d s.labels (subst (λ (m : Masters). StandsForLabels (keys_of m) d s.labels) registers first.store)
    ∙ sym (labels_one (keys_of t.registers) d t.labels second.store) in
    let same : made s.registers s.roles s.labels ≡ made t.registers t.roles t.labels = cc in
    same

pub pair_apart : (s : State) (c d : List ℕ) (cell : ℕ) → ArePairOf s c d → IsBrokenPair cell c d → ⊥
pair_apart s c d cell pair (inl (inl damaged)) = damaged.1 s.registers pair.module.registers
pair_apart s c d cell pair (inl (inr first)) = roles_undamaged c s.roles first.1.place pair.module.roles first.1.within first.1.damaged
pair_apart s c d cell pair (inr broken) =
    let one : s.registers ≡ broken.registers = reads_one (body c 0) s.registers broken.registers pair.module.registers broken.in_registers in
    labels_undamaged (keys_of broken.registers) d s.labels cell (subst (λ (m : Masters). StandsForLabels (keys_of m) d s.labels) one pair.store)
    broken.first.within broken.first.damaged

pub pair_or_broken : (c d : List ℕ) → AreBytes 50688 c → AreBytes 1572864 d → ((s : State) × ArePairOf s c d) ⊎ ((cell : ℕ) × IsBrokenPair cell c d)
pair_or_broken c d module_bytes store_bytes = ⊎_elim
    (λ (reads : Reads (body c 0)). ⊎_elim
    (λ (roles : StandsForRoles c (roles_in c)). ⊎_elim
    (λ (labels : StandsForLabels (keys_of reads.0) d (labels_in (keys_of reads.0) d)).
    inl (made reads.0 (roles_in c) (labels_in (keys_of reads.0) d), record { «module» = record { registers = reads.1; roles = roles }; store = labels }))
    (λ first. inr (first.0, inr (record { registers = reads.0; roles = roles_in c; in_registers = reads.1; in_roles = roles; first = first.1 })))
    (labels_or_damaged (keys_of reads.0) d store_bytes))
    (λ first. inr (first.0, inl (inr (λ damaged. damaged reads.0 reads.1, first.1))))
    (roles_or_damaged c))
    (λ (nothing : ReadsNothing (body c 0)). inr (0, inl (inl (refl, nothing))))
    (reads_or_not (body c 0) (is_body (body c 0) (cell_bytes c module_bytes)))
