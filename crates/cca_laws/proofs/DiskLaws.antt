-- Contents stand for one state, and a state has one store.
use Rattle.std.proofs.Common.{◌≡◌, ◌<◌, ℕ, List, ⊎_elim, sym, ap, subst, ◌∙◌}
use Rattle.device_cells.specs.Cells.{body}
use Rattle.cca_roles.proofs.StandLaws.{stands_one}
use Rattle.record_bodies.specs.StoreStands.{labels_in}
use Rattle.record_bodies.proofs.OneBody.{same_bodies}
use Rattle.record_bodies.proofs.OpeningLaws.{stands_one as labels_one}
use Rattle.verb_rules.proofs.TokenLemmas.{keys_apart}
use Rattle.key_tokens.specs.Denotes.{HaveDistinctPatterns}
use Rattle.master_registers.specs.Masters.{IsMasters, Masters, blank_masters}
use Rattle.master_registers.specs.RegisterBody.{blank_body, registers_body}
use Rattle.master_registers.proofs.BodyLaws.{reads_one}
use Rattle.verb_rules.specs.Keys.{keys_of}
use Rattle.cca_machine.specs.Session.{replies, state_after}
use Rattle.cca_machine.specs.State.{State, IsModuleOf, IsStoreOf}
use Rattle.cca_laws.specs.Disks.{StandFor}
use Rattle.store_unload.proofs.KnownLemmas.{same_state}
use Rattle.cca_roles.proofs.DirectoryLaws.{none_some}

pub one_state : (s t : State) (c d : List ℕ) → StandFor s c d → StandFor t c d → s ≡ t
one_state s t c d first second =
    let registers : s.registers ≡ t.registers = reads_one (body c 0) s.registers t.registers first.module_.registers second.module_.registers in
    same_state s t registers
    (stands_one c s.roles first.module_.roles ∙ sym (stands_one c t.roles second.module_.roles))
    (labels_one (keys_of s.registers) d s.labels first.store
    ∙ (ap (λ (m : Masters). labels_in (keys_of m) d) registers ∙ sym (labels_one (keys_of t.registers) d t.labels second.store)))

pub same_replies : (s t : State) (c d random : List ℕ) (lines : List (List ℕ)) → StandFor s c d → StandFor t c d → replies s random lines ≡ replies t random lines
same_replies s t c d random lines first second = ap (λ (x : State). replies x random lines) (one_state s t c d first second)

-- the master keys of a module have different patterns
pub module_distinct : (s : State) (c : List ℕ) → IsModuleOf s c → HaveDistinctPatterns (keys_of s.registers)
module_distinct s c stands = ⊎_elim
    (λ (blank : (body c 0 ≡ blank_body) × (s.registers ≡ blank_masters)). subst (λ (m : Masters). HaveDistinctPatterns (keys_of m)) (sym blank.1) (λ current former is_current is_former same. none_some current is_current))
    (λ (full : (body c 0 ≡ registers_body s.registers) × IsMasters s.registers). keys_apart s.registers full.1)
    stands.registers

pub same_bytes : (s t : State) (c d random : List ℕ) (lines : List (List ℕ)) → StandFor s c d → StandFor t c d
    → (c0 d0 c1 d1 : List ℕ) → StandFor (state_after s random lines) c0 d0 → StandFor (state_after t random lines) c1 d1
    → (cell : ℕ) → cell < 1024 → body d0 cell ≡ body d1 cell
same_bytes s t c d random lines first second c0 d0 c1 d1 one other cell within =
    let same : state_after t random lines ≡ state_after s random lines = ap (λ (x : State). state_after x random lines) (sym (one_state s t c d first second)) in
    same_bodies (keys_of (state_after s random lines).registers) (module_distinct (state_after s random lines) c0 one.module_) d0 d1 (state_after s random lines).labels cell
    one.store (subst (λ (x : State). IsStoreOf x d1) same other.store) within
