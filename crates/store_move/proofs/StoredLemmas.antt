-- The key that is judged of a record is that of the label.
use Rattle.std.proofs.Common.{◌≡◌, ◌∙◌, ℕ, Bool, true, List, Option, None, Some, refl, ap, sym, subst}
use Rattle.std.specs.Prelude.{◌⊎◌, IfErr, IfSome, Result, Ok, Err, if◌then◌else◌, is_none, is_some, not, option_map}
use Rattle.cca_vectors.specs.Checks.{first_failing}
use Rattle.cca_vectors.specs.Classes.{class_of}
use Rattle.cca_vectors.specs.Permissions.{is_exportable}
use Rattle.cca_vectors.specs.Vectors.{is_part_of}
use Rattle.key_cells.specs.Bench.{Bench}
use Rattle.key_cells.specs.Lease.{bench_of, holding}
use Rattle.key_cells.specs.declared.leases.Lease.{Lease}
use Rattle.key_records.specs.Changes.{HasReadCause, IsReadOf, KeepsAllButBody, ReadsToken, has_key}
use Rattle.record_bodies.proofs.PieceLaws.{token_is_held}
use Rattle.record_bodies.specs.declared.rows.Row.{Row}
use Rattle.std.proofs.lemmas.Bool.{false≢true}
use Rattle.record_bodies.specs.Entries.{Entry, what_in}
use Rattle.key_records.proofs.ReadKeys.{HasRead, read_key}
use Rattle.key_tokens.specs.Denotes.{Denoted, MasterKeys, denoted}
use Rattle.key_tokens.specs.declared.key_token.Age.{Age}
use Rattle.key_transport.specs.Tokens.{external_token}
use Rattle.verb_rules.specs.Keys.{opened}
use Rattle.verb_rules.specs.Needs.{exported_key}
use Rattle.verb_rules.specs.StoredKeys.{IsUse, IsStoredUse}
use Rattle.verb_rules.specs.declared.judging.Judged.{Judged}
use Rattle.verb_rules.specs.declared.needs.Need.{Need}
use Rattle.verb_rules.specs.declared.rules.Rule.{Rule}
use Rattle.verb_rules.proofs.NeedLemmas.{every_has}
use Rattle.cca_roles.proofs.DirectoryLaws.{none_some}
use Rattle.key_records.specs.declared.faults.RecordFault.{RecordFault}
use Rattle.key_records.specs.declared.faults.RecordFault.TheVariants.{Damaged, DiskFault}
use Rattle.key_transport.specs.Changes.{ChangesKeys}
use Rattle.store_move.specs.Reading.{FailsAt, HoldsAsRead, if_found}
use Rattle.store_move.specs.Exports.{ChangesWork, IsMoved, export_checks, vector_in}
use Rattle.store_move.specs.Stored.{IsStored, stored_checks}
use Rattle.store_move.specs.declared.moving.Moved.TheVariants.{Kept, Token}

stored_use : (bench : Bench) (need : Need) (key : Denoted) (r : Result Judged Rule) → IsUse bench need key r → IsStored bench need (Some key) r
stored_use bench need key (Ok judged) judges = judges
stored_use bench need key (Err _) judges = judges

pub stored_as : (bench : Bench) (need : Need) (what : Option Denoted) (r : Result Judged Rule) → IsStoredUse bench need what (Some r) → IsStored bench need what r
stored_as bench need None r judges = absurd judges
stored_as bench need (Some key) r judges = stored_use bench need key r judges

-- a token of which a key is judged stands for one
pub stored_some : (bench : Bench) (need : Need) (what : Option Denoted) (r : Result Judged Rule) → IsStoredUse bench need what (Some r) → is_some what ≡ true
stored_some bench need None r judges = absurd judges
stored_some bench need (Some key) r judges = refl

module _ (content : Option (List ℕ)) (masters : MasterKeys) (entry : Option Entry) (bench : Bench) (need : Need) (token : List ℕ)
    (found : Bool) (is : found ≡ true) (told : IfSome content (λ _. ReadsToken masters entry found token)) where
  -- where the store tells its bytes, the token that is read is that of the record's key
  told_key : (P : Type 0) → (HasRead masters entry token → P) → IfSome content (λ _. P)
  told_key P gives = by_content content told
    where
      by_content : (o : Option (List ℕ)) → IfSome o (λ _. ReadsToken masters entry found token) → IfSome o (λ _. P)
      by_content None told = tt
      by_content (Some image) reads = gives (read_key masters entry token (subst (λ (b : Bool). ReadsToken masters entry b token) is reads))

  pub stored_key : (r : Result Judged Rule) → IsStoredUse bench need (denoted masters token) (Some r) → IfSome content (λ _. IsStored bench need (what_in entry) r)
  stored_key r judges = told_key (IsStored bench need (what_in entry) r) (λ read.
      subst (λ (what : Option Denoted). IsStored bench need what r) (sym read.is)
      (stored_use bench need read.key r (subst (λ (what : Option Denoted). IsStoredUse bench need what (Some r)) read.denotes judges)))

  pub never_damaged : denoted masters token ≡ None → IfSome content (λ _. ⊥)
  never_damaged stands = told_key ⊥ (λ read. none_some read.key (sym stands ∙ read.denotes))

-- a body whose token stands for no key holds nothing as the record of a key
module _ (masters : MasterKeys) (bytes token : List ℕ) (what : Option Denoted) (found : Bool) (is : found ≡ true) (none : denoted masters token ≡ None) where
  pub no_key_holds : (row : Option Row) → IsReadOf row bytes found token → found ≡ has_key row → HoldsAsRead masters row bytes what → ⊥
  no_key_holds None own null holds = false≢true own.held
  no_key_holds (Some r) own null holds =
      let found_too : holds.found ≡ true = holds.null ∙ sym null ∙ is in
      let same : holds.token ≡ token = sym (token_is_held bytes r holds.token own.known.0 (holds.read.token found_too)) ∙ token_is_held bytes r token own.known.0 (own.token is) in
      let nothing : what ≡ None = holds.holds ∙ ap (λ (b : Bool). if_found b (denoted masters holds.token)) found_too ∙ ap (denoted masters) same ∙ none in
      false≢true (sym (ap (λ (w : Option Denoted). is_some w) nothing) ∙ holds.key ∙ found_too)

-- ---- the key that is moved

-- a key that is exported may be of each class, of each use and of each length
exported_checks : (what : Option Denoted) → first_failing (stored_checks exported_key what) ≡ first_failing (export_checks what)
exported_checks what =
    ap (λ (b : Bool). if is_none what then Some 8 else if is_part_of (vector_in what) then Some 17
    else if not b then Some 19 else if not (is_exportable (vector_in what)) then Some 21 else None)
    (every_has (class_of (vector_in what)))

module _ (bench : Bench) (what : Option Denoted) (transport : List ℕ) where
  stored_moved : (judged : Judged) (token : List ℕ) → token ≡ external_token transport (opened bench judged)
      → IsStored bench exported_key what (Ok judged) → IsMoved transport what (Token token)
  stored_moved judged token is stored =
      let found = by_age judged.age refl in (sym (exported_checks what) ∙ stored.0, found.0, found.1, found.2)
    where
      at_age : Age → Denoted
      at_age age = record { clear = opened bench judged; age = age }

      by_age : (age : Option Age) → judged.age ≡ age → (key : Denoted) × (what ≡ Some key) × (token ≡ external_token transport key.clear)
      by_age None none =
          let null : what ≡ None = sym stored.1 ∙ ap (option_map at_age) none in
          let broken : first_failing (stored_checks exported_key None) ≡ None =
          subst (λ (w : Option Denoted). first_failing (stored_checks exported_key w) ≡ None) null stored.0 in
          absurd (cc broken)
      by_age (Some age) some = (at_age age, sym stored.1 ∙ ap (option_map at_age) some, is)

  -- a key that is what an exported key has to be is moved
  pub moved_token : (need : Need) (r : Result Judged Rule) (judged : Judged) (token : List ℕ) → need ≡ exported_key → r ≡ Ok judged
      → token ≡ external_token transport (opened bench judged) → IsStored bench need what r → IsMoved transport what (Token token)
  moved_token need r judged token asks ok is stored =
      stored_moved judged token is
      (subst (λ (n : Need). IsStored bench n what (Ok judged)) asks (subst (λ (x : Result Judged Rule). IsStored bench need what x) ok stored))

  -- and else kept back by the rule
  pub moved_kept : (need : Need) (r : Result Judged Rule) (rule : Rule) → need ≡ exported_key → r ≡ Err rule
      → IsStored bench need what r → IsMoved transport what (Kept rule)
  moved_kept need r rule asks broken stored =
      let here : IsStored bench exported_key what (Err rule) =
      subst (λ (n : Need). IsStored bench n what (Err rule)) asks (subst (λ (x : Result Judged Rule). IsStored bench need what x) broken stored) in
      sym (exported_checks what) ∙ here

-- the token that is written once the key was read is that under the transport key as it was opened
pub exported_under : (old new : Lease) (judged transport : Judged) (token : List ℕ) → KeepsAllButBody old new
    → token ≡ external_token (opened (bench_of new) transport).key (opened (bench_of new) judged)
    → token ≡ external_token (opened (bench_of old) transport).key (opened (bench_of old) judged)
exported_under old new judged transport token rest is =
    subst (λ (b : Bench). token ≡ external_token (opened b transport).key (opened b judged)) (ap bench_of rest) is

-- ---- why a record wasn't read

abbrev pub failed : (T : Type 0) → RecordFault → Result T RecordFault
failed T e = Err e

-- the same fault, of another call
pub failed_as : (A B : Type 0) (e f : RecordFault) → failed A e ≡ failed A f → failed B e ≡ failed B f
failed_as A B e f is = cc is

-- a damaged cell was read
pub was_read : (A : Type 0) (n : ℕ) → failed A (Damaged n) ≡ failed A DiskFault → ⊥
was_read A n is = cc is

module _ (cell before now : ℕ) where
  pub fails_none : {A B : Type 0} (x : A) (y : B) → FailsAt cell before now (Ok x) → FailsAt cell before now (Ok y)
  fails_none x y fails = record { later = fails.later; failed = λ is. absurd (cc is); quiet = λ _. fails.quiet (λ is. cc is); faults = tt }

  pub fails_same : (A B : Type 0) (e : RecordFault) → FailsAt cell before now (failed A e) → FailsAt cell before now (failed B e)
  fails_same A B e fails = record { later = fails.later; failed = λ is. fails.failed (cc is); quiet = λ other. fails.quiet (λ is. other (cc is)); faults = fails.faults }

  pub read_fails : {B : Type 0} (found : Bool) (result : Result B RecordFault) → HasReadCause before now (Ok found) → (result ≡ Err DiskFault → ⊥)
      → IfErr result (λ fault. (fault ≡ DiskFault) ⊎ (fault ≡ Damaged cell)) → FailsAt cell before now result
  read_fails found result cause other faults = record { later = cause.later; failed = λ is. absurd (other is); quiet = λ _. cause.quiet (λ is. cc is); faults = faults }

  pub unread_fails : (B : Type 0) (e : RecordFault) → HasReadCause before now (Err e) → (e ≡ DiskFault) ⊎ (e ≡ Damaged cell) → FailsAt cell before now (failed B e)
  unread_fails B e cause faults = record { later = cause.later; failed = λ is. cause.failed (cc is); quiet = λ other. cause.quiet (λ is. other (cc is)); faults = faults }

-- ---- the lease

pub body_works : (old new : Lease) → KeepsAllButBody old new → ChangesWork old new
body_works old new keeps =
    keeps ∙ ap (λ (l : Lease). holding old (record (bench_of old) { first = (bench_of l).first; key = (bench_of l).key; schedules = (bench_of l).schedules; body = (bench_of new).body })) (sym keeps)

pub body_kept : (old new : Lease) → ChangesKeys old new → (bench_of new).body ≡ (bench_of old).body
body_kept old new keys = ap (λ (l : Lease). (bench_of l).body) keys

pub keys_work : (first between last : Lease) → KeepsAllButBody first between → ChangesKeys between last → ChangesWork first last
keys_work first between last body keys =
    keys
    ∙ ap (λ (l : Lease). holding l (record (bench_of l) { first = (bench_of last).first; key = (bench_of last).key; schedules = (bench_of last).schedules })) body
    ∙ ap (λ (b : List ℕ). holding first (record (bench_of first) { first = (bench_of last).first; key = (bench_of last).key; schedules = (bench_of last).schedules; body = b })) (sym (body_kept between last keys))
