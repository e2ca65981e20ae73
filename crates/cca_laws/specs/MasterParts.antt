-- A master key that is entered in parts through the machine: the requests of a key ceremony, and what a part says of the
-- master key.
use Rattle.std.specs.Prelude.{◌≡◌, ℕ, List, [], ◌∷◌, ◌++◌, codes, map}
use Rattle.key_cells.specs.Bytes.{AreBytes}
use Rattle.master_registers.specs.Masters.{Full, NewRegister}
use Rattle.verb_script.specs.Grammar.{Request}
use Rattle.verb_script.specs.declared.rows.RequestName.TheVariants.{CsnbmkpPart, CsnbmkpSet}
use Rattle.cca_machine.specs.Act.{performed}
use Rattle.cca_machine.specs.State.{State}
use Rattle.cca_laws.specs.KeyInParts.{AreCarriedOut, Custodian, IsPermitted, bytes_of}

-- ---- the requests

-- CSNBMKP FIRST, MIDDLE or LAST with a custodian's part
abbrev pub part_request : List ℕ → Custodian → Request
part_request action c = record {
  name = CsnbmkpPart;
  values = c.role ∷ action ∷ c.part ∷ [];
}

-- CSNBMKP FIRST, and MIDDLE for each part that follows
abbrev pub begin_requests : Custodian → List Custodian → List Request
begin_requests first middle =
    part_request (codes "FIRST") first ∷ map (part_request (codes "MIDDLE")) middle

-- CSNBMKP SET by a role
abbrev pub set_request : List ℕ → Request
set_request role = record { name = CsnbmkpSet; values = role ∷ codes "SET" ∷ [] }

-- two or more parts of a master key are entered: FIRST, MIDDLE for each between, and LAST; and SET is carried out
pub record Ceremony (s : State) : Type 0 where
  pub first : Custodian
  pub middle : List Custodian
  pub last : Custodian
  pub role : List ℕ
  pub entered : State
  pub now : State
  pub enters : AreCarriedOut s
      (begin_requests first middle ++ part_request (codes "LAST") last ∷ []) entered
  pub sets : AreCarriedOut entered (set_request role ∷ []) now

-- the bytes of all parts
abbrev pub master_parts : (s : State) → Ceremony s → List (List ℕ)
master_parts s c = bytes_of c.first ∷ (map bytes_of c.middle ++ bytes_of c.last ∷ [])

-- ---- the last part

-- the new register after LAST with a custodian's part
abbrev pub after_last_part : State → Custodian → NewRegister
after_last_part s c = (performed s [] (part_request (codes "LAST") c)).state.registers.coming

-- LAST with this part, and with this one alone, leaves the master key in the new register
pub record IsOnlyLast (s : State) (master last : List ℕ) : Type 0 where
  pub bytes : AreBytes 24 last
  pub makes : (c : Custodian) → IsPermitted s (part_request (codes "LAST") c)
      → bytes_of c ≡ last → after_last_part s c ≡ Full master
  pub only : (c : Custodian) → IsPermitted s (part_request (codes "LAST") c)
      → after_last_part s c ≡ Full master → bytes_of c ≡ last
