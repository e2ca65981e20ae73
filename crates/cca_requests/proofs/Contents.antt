-- What stands in the cells that a change leaves alone.
use Rattle.std.proofs.Common.{◌≡◌, ◌≢◌, ◌+◌, ℕ, List, Option, None, Some, refl, sym, subst, arith}
use Rattle.std.specs.Prelude.{IsSome}
use Rattle.device_cells.specs.Cells.{body}
use Rattle.device_cells.specs.Medium.{Becomes, Medium, Told}
use Rattle.device_cells.proofs.Media.{told_at, told_from}
use Rattle.cca_roles.specs.RoleBody.{ReadsPlace}
use Rattle.cca_roles.specs.Roles.{role_at}
use Rattle.cca_roles.specs.RolesStand.{StandsForRoles}
use Rattle.cca_roles.specs.declared.roles.Role.{Role}
use Rattle.master_registers.specs.Masters.{Masters}
use Rattle.master_registers.specs.RegisterBody.{ReadsMasters, StandsForMasters}
use Rattle.line_service.specs.Answering.{Holds}
use Rattle.cca_requests.specs.Serving.{IsSound}

-- a fact on the content of a disk
pub at_content : (m : Medium) (P : List ℕ → Type 0) → Holds m P → (d : List ℕ) → m.content ≡ Some d → P d
at_content m P holds d is = let same : holds.image ≡ d = cc (holds.told, is) in subst P same holds.has

-- a disk that tells its content, of which P is told
pub holds_at : (content : Option (List ℕ)) (m : Medium) (P : List ℕ → Type 0) → m.content ≡ content → IsSome content → Told m P → Holds m P
holds_at None m P is some told = cc some
holds_at (Some c) m P is some told = record { image = c; told = is; has = told_at m.content P c is told }

-- what a disk holds after a change, by what it held before
pub becomes_holds : (old new : Medium) (step : List ℕ → List ℕ → Type 0) (P Q R : List ℕ → Type 0) → Becomes step old new → Holds old P → Told new Q
    → ((d c : List ℕ) → P d → step d c → Q c → R c) → Holds new R
becomes_holds old new step P Q R becomes held told gives =
    let holds = holds_at new.content new Q refl (becomes.still (subst IsSome (sym held.told) refl)) told in
    let from = becomes.told holds.image holds.told in
    record { image = holds.image; told = holds.told; has = gives from.0 holds.image (at_content old P held from.0 from.1) from.2 holds.has }

pub not_first : (n : ℕ) → n + 1 ≢ 0
not_first n h = omega arith

pub not_next : (n : ℕ) → 0 ≢ n + 1
not_next n h = omega arith

-- a change of cell 0 leaves the roles
pub roles_alike : (old new : List ℕ) (roles : List (Option Role)) → ((n : ℕ) → n ≢ 0 → body new n ≡ body old n)
    → StandsForRoles old roles → StandsForRoles new roles
roles_alike old new roles same stands = record {
  size = stands.size;
  reads = λ n within. subst (λ b. ReadsPlace n b (role_at roles n)) (sym (same (n + 1) (not_first n))) (stands.reads n within);
  apart = stands.apart;
}

-- a change of another cell leaves the registers
pub registers_alike : (old new : List ℕ) (m : Masters) (place : ℕ) → ((n : ℕ) → n ≢ place + 1 → body new n ≡ body old n)
    → StandsForMasters old m → StandsForMasters new m
registers_alike old new m place same stands = subst (λ b. ReadsMasters b m) (sym (same 0 (not_next place))) stands

-- a module that stands for registers and for roles
pub sound : (m : Medium) (registers : Masters) (roles : List (Option Role)) → Told m (λ image. StandsForMasters image registers)
    → Told m (λ image. StandsForRoles image roles) → Told m (IsSound roles)
sound m registers roles told also = told_from m.content (IsSound roles) (λ c is. record {
  registers = registers;
  in_registers = told_at m.content (λ image. StandsForMasters image registers) c is told;
  in_roles = told_at m.content (λ image. StandsForRoles image roles) c is also;
})
