-- A disk that begins anew, with what it holds or with zeros.
use Rattle.std.proofs.Common.{◌≡◌, ◌≤◌, ℕ, List, [], length, refl, sym, subst}
use Rattle.slot_disk.specs.DiskState.{DiskState, IsDisk, blank_image}
use Rattle.slot_disk.specs.declared.call.Call.{Call}
use Rattle.slot_disk.proofs.DiskSteps.{is_disk_new}

pub is_disk_anew : (first content : List ℕ) (calls : List Call) (room capacity : ℕ) → first ≡ content → calls ≡ [] → room ≤ capacity → IsDisk first content calls room capacity
is_disk_anew first content calls room capacity same none le =
    let fresh : IsDisk content content [] room room = is_disk_new content content [] room room refl refl refl in
    let wide : IsDisk content content [] room capacity = record { size = fresh.size; replayed = fresh.replayed; noted = fresh.noted; reserved = le } in
    subst (λ (f : List ℕ). IsDisk f content calls room capacity) (sym same) (subst (λ (l : List Call). IsDisk content content l room capacity) (sym none) wide)

abbrev pub blanked : DiskState → DiskState
blanked d = record d { first = blank_image (length d.first); calls = [] }

pub is_blanked : (d : DiskState) (first : List ℕ) (calls : List Call) → first ≡ blank_image (length d.first) → calls ≡ [] → record d { first = first; calls = calls } ≡ blanked d
is_blanked d first calls blank none = λ i. record d { first = blank i; calls = none i }
