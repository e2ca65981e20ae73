-- What a sealed store says of the state for which it stands: its unused tokens were made in the states over which it is sealed.
use Rattle.std.proofs.Common.{◌≡◌, inl, inr, ⊎_elim, ℕ, ◌+◌, ◌-◌, ◌<◌, ◌≤◌, Bool, true, false, List, length, Option, None, Some, refl, sym, ap, subst, ◌∙◌, arith}
use Rattle.std.specs.Prelude.{Contains, slice_index}
use Rattle.std.proofs.lemmas.Bool.{cases_lt}
use Rattle.std.proofs.lemmas.List.{get_or_past, length-append, length-replicate}
use Rattle.std.proofs.lemmas.Option.{same_Some}
use Rattle.cca_roles.proofs.DirectoryLaws.{none_some}
use Rattle.cca_roles.specs.NameLaws.{label_short}
use Rattle.device_cells.specs.Cells.{body, selected}
use Rattle.device_cells.proofs.CellSteps.{selected_below}
use Rattle.cca_vectors.specs.Checks.{first_failing}
use Rattle.record_bodies.specs.Entries.{Entry}
use Rattle.record_bodies.specs.Labels.{IsLabel}
use Rattle.record_bodies.specs.RecordBody.{HasToken, IsFirst, IsSecond, IsTurned, ReadsEntry, ReadsWhat, both_body, both_kind, key_kind, no_second, null_kind, record_body, token_in}
use Rattle.record_bodies.specs.StoreStands.{entry_at}
use Rattle.record_bodies.specs.Written.{key_record, record_bytes, register_of, second_under, token_bytes, written_body}
use Rattle.record_bodies.specs.declared.rows.Second.{Second}
use Rattle.record_bodies.proofs.BodyLaws.{blank_first, kind_again, token_again}
use Rattle.record_bodies.proofs.SecondLaws.{IsLong, none_long, second_long}
use Rattle.key_tokens.specs.Denotes.{ClearKey, Denoted, MasterKeys}
use Rattle.key_tokens.specs.TokenChecks.{token_checks}
use Rattle.key_tokens.specs.declared.key_token.Age.{Age}
use Rattle.key_tokens.specs.declared.key_token.Age.TheVariants.{Current, Old}
use Rattle.key_tokens.specs.declared.key_token.Asked.TheVariants.{Internal}
use Rattle.master_registers.specs.Masters.{Masters, NewRegister, Empty, Partial, Full}
use Rattle.verb_rules.specs.Keys.{keys_of, master_key, new_key}
use Rattle.cca_machine.specs.State.{State, IsStoreOf}
use Rattle.cca_laws.specs.Sealed.{IsProper, IsSealed, IsSealedBody, IsSealedToken, unused_in}
use Rattle.cca_laws.proofs.TokenVectors.{pattern_long, sealed_long}
use Rattle.cca_laws.proofs.UnusedLaws.{AreMadeTokens, IsMadeToken}

-- ---- the first of two tokens

body_long : (kind : ℕ) (label token : List ℕ) (second : Second) → length label ≤ 64 → IsLong second → length (record_body kind label token second) ≡ 128 + length token
unfolding record_body
body_long kind label token second short long =
    simp length-append (omega (arith, short, long.pattern, long.left, long.right, length-replicate {A = ℕ} (64 - length label) 0, length-replicate {A = ℕ} 38 0))

same_first : (label other token first : List ℕ) (second last : Second) → both_body label token second ≡ both_body other first last
    → length label ≤ 64 → length other ≤ 64 → length token ≡ 64 → IsLong second → IsLong last → token ≡ first
same_first label other token first second last same short short_too long second_is last_is =
    let first_long : length first ≡ 64 =
    omega (arith, long, ap length same, body_long both_kind label token second short second_is, body_long both_kind other first last short_too last_is) in
    sym (token_again both_kind label token second short long) ∙ (ap token_in same ∙ token_again both_kind other first last short_too first_long)

-- a body of two tokens is of no other kind
no_kind : (kind : ℕ) (label token other first : List ℕ) (second last : Second) → both_body label token second ≡ record_body kind other first last → kind < 3 → ⊥
no_kind kind label token other first second last same low =
    let is : both_kind ≡ kind = sym (kind_again both_kind label token second) ∙ (ap (λ bytes. slice_index bytes 0) same ∙ kind_again kind other first last) in
    omega (arith, low, is)

-- ---- a second token under a register

master_long : (register : Option (List ℕ)) (clear : ClearKey) → IsLong (second_under (master_key register) clear)
master_long None clear = none_long
master_long (Some bytes) clear =
    let halves = sealed_long bytes clear.vector clear.key in
    record { pattern = pattern_long bytes; left = halves.0; right = halves.1 }

age_long : (m : Masters) (age : Age) (clear : ClearKey) → IsLong (second_under (register_of (keys_of m) age) clear)
age_long m Current clear = master_long m.current clear
age_long m Old clear = master_long m.former clear

coming_long : (c : NewRegister) (clear : ClearKey) → IsLong (second_under (new_key c) clear)
coming_long Empty clear = none_long
coming_long (Partial bytes) clear = none_long
coming_long (Full bytes) clear = master_long (Some bytes) clear

-- ---- the unused token of a body

-- the body is that of a label with two tokens, of which this is the first
pub record HasFirst (bytes token : List ℕ) : Type 0 where
  pub label : List ℕ
  pub short : length label ≤ 64
  pub second : Second
  pub is_first : IsFirst token
  pub is_second : IsSecond token second
  pub body : bytes ≡ both_body label token second

module _ (masters : MasterKeys) (bytes token : List ℕ) where
  by_token : (label : List ℕ) (key : Denoted) (ahead : Bool) (unused : Option (List ℕ)) (first : List ℕ) → IsLabel label
      → HasToken masters bytes label first key ahead unused → unused ≡ Some token → HasFirst bytes token
  by_token label key false unused first well (inl one) is = absurd (none_some token (sym one.1 ∙ is))
  by_token label key false unused first well (inr two) is =
      let turned : IsTurned bytes label first = two.0 in
      let same : turned.first ≡ token = same_Some turned.first token (sym two.1 ∙ is) in
      record {
        label = label;
        short = label_short label well;
        second = turned.second;
        is_first = subst IsFirst same turned.is_first;
        is_second = subst (λ (t : List ℕ). IsSecond t turned.second) same turned.is_second;
        body = turned.body ∙ ap (λ (t : List ℕ). both_body label t turned.second) same;
      }
  by_token label key true unused first well two is = absurd (none_some token (sym two.1 ∙ is))

  by_what : (label : List ℕ) (what : Option Denoted) (ahead : Bool) (unused : Option (List ℕ)) → IsLabel label → ReadsWhat masters bytes label what ahead unused
      → unused ≡ Some token → HasFirst bytes token
  by_what label None ahead unused well reads is = absurd (none_some token (sym reads.2 ∙ is))
  by_what label (Some key) ahead unused well reads is = by_token label key ahead unused reads.token well reads.body is

  pub first_in : (slot : Option Entry) → ReadsEntry masters bytes slot → unused_in slot ≡ Some token → HasFirst bytes token
  first_in None reads is = absurd (none_some token is)
  first_in (Some e) reads is = by_what e.label e.what e.ahead e.unused reads.0 reads.1 is

-- ---- a body that is sealed over some states

module _ (states : List State) (t : State) (among : Contains states t) (label token : List ℕ) (second : Second) (short : length label ≤ 64) (long : length token ≡ 64)
    (second_is : IsLong second) where
  -- it has a token that was made
  by_mark : (other : List ℕ) (key : Denoted) (ahead : Bool) (unused : Option (List ℕ)) → length other ≤ 64 → ((first : List ℕ) → unused ≡ Some first → IsSealedToken states first)
      → both_body label token second ≡ key_record (keys_of t.registers) other key ahead unused → IsMadeToken states token
  by_mark other key true unused short_too sealed same = record {
    state = t;
    among = among;
    age = Current;
    clear = key.clear;
    is = same_first label other token (token_bytes (keys_of t.registers).current key.clear) second (second_under (keys_of t.registers).coming key.clear) same short short_too long second_is
        (coming_long t.registers.coming key.clear);
  }
  by_mark other key false None short_too sealed same = absurd (no_kind key_kind label token other _ second no_second same (omega arith))
  by_mark other key false (Some first) short_too sealed same =
      let made : IsSealedToken states first = sealed first refl in
      let is : token ≡ first = same_first label other token first second (second_under (register_of (keys_of t.registers) key.age) key.clear) same short short_too long second_is
      (age_long t.registers key.age key.clear) in
      record { state = made.state; among = made.among; age = made.age; clear = made.clear; is = is ∙ made.is }

  by_entry : (e : Entry) (what : Option Denoted) → length e.label ≤ 64 → ((first : List ℕ) → e.unused ≡ Some first → IsSealedToken states first)
      → both_body label token second ≡ record_bytes (keys_of t.registers) e what → IsMadeToken states token
  by_entry e None short_too sealed same = absurd (no_kind null_kind label token e.label _ second no_second same (omega arith))
  by_entry e (Some key) short_too sealed same = by_mark e.label key e.ahead e.unused short_too sealed same

  by_slot : (slot : Option Entry) → ((e : Entry) → slot ≡ Some e → IsProper e) → ((first : List ℕ) → unused_in slot ≡ Some first → IsSealedToken states first)
      → both_body label token second ≡ written_body (keys_of t.registers) slot → IsMadeToken states token
  by_slot None proper sealed same =
      let is : both_kind ≡ 0 = sym (kind_again both_kind label token second) ∙ (ap (λ bytes. slice_index bytes 0) same ∙ blank_first) in absurd (omega (arith, is))
  by_slot (Some e) proper sealed same = by_entry e e.what (label_short e.label (proper e refl).label) sealed same

of_body : (states : List State) (n : ℕ) (bytes token : List ℕ) → IsSealedBody states n bytes → HasFirst bytes token → IsMadeToken states token
of_body states n bytes token sealed first =
    by_slot states sealed.state sealed.among first.label token first.second first.short first.is_first.bytes.size (second_long token first.second first.is_second)
    (entry_at sealed.state.labels n) sealed.proper sealed.unused (sym first.body ∙ sealed.is)

-- the unused tokens of the state
pub made_before : (states : List State) (s : State) (image : List ℕ) → IsStoreOf s image → IsSealed states image → AreMadeTokens states s.labels
unfolding body
made_before states s image stands sealed n token is = ⊎_elim
    (λ (within : n < 1024).
    of_body states n (body image n) token (sealed.bodies n (selected image n) within (selected_below image n))
    (first_in (keys_of s.registers) (body image n) token (entry_at s.labels n) (stands.reads n within) is))
    (λ (past : 1024 ≤ n).
    absurd (none_some token (sym (ap unused_in (get_or_past s.labels n None (omega (arith, past, stands.size)))) ∙ is)))
    (cases_lt n 1024)

-- an unused token breaks no rule
pub unused_sound : (masters : MasterKeys) (bytes token : List ℕ) (slot : Option Entry) → ReadsEntry masters bytes slot → unused_in slot ≡ Some token
    → first_failing (token_checks Internal token) ≡ None
unused_sound masters bytes token slot reads is = (first_in masters bytes token slot reads is).is_first.sound
