-- What AHEAD makes of labels, and what SET makes of labels that are ahead.
use Rattle.std.proofs.Common.{◌≡◌, ◌≤◌, ℕ, zero, suc, Bool, true, false, not, List, [], ◌∷◌, length, map, Option, None, Some, refl, sym, ap, subst, ◌∙◌, ◌||◌, IsSome, true≢false, arith}
use Rattle.std.specs.Prelude.{◌&&◌, if◌then◌else◌}
use Rattle.std.proofs.lemmas.Option.{same_Some}
use Rattle.cca_roles.specs.Directory.{has_name}
use Rattle.cca_roles.proofs.DirectoryLaws.{none_some}
use Rattle.record_bodies.specs.Ages.{any_ahead_entry, any_old, is_ahead_entry, is_old}
use Rattle.record_bodies.specs.Directory.{cell_of}
use Rattle.record_bodies.specs.Entries.{Entry, entry_label}
use Rattle.record_bodies.specs.Turning.{aged, aged_entry, aged_key}
use Rattle.key_tokens.specs.Denotes.{Denoted, MasterKeys}
use Rattle.key_tokens.specs.declared.key_token.Age.{Age}
use Rattle.key_tokens.specs.declared.key_token.Age.TheVariants.{Current, Old}
use Rattle.key_transport.specs.Tokens.{as_current}
use Rattle.record_bodies.specs.Further.{changed, changed_entry, further, has_current_key, made_by}
use Rattle.record_bodies.specs.declared.actions.StoreAction.{StoreAction}
use Rattle.record_bodies.specs.declared.actions.StoreAction.TheVariants.{Ahead}
use Rattle.verb_rules.specs.Keys.{keys_of}
use Rattle.verb_script.specs.Grammar.{Request}
use Rattle.verb_script.specs.declared.rows.RequestName.{RequestName}
use Rattle.verb_script.specs.declared.rows.RequestName.TheVariants.{CsnbmkpClear, CsnbmkpSet}
use Rattle.cca_machine.specs.Act.{effect, or_act, performed, state_after as after_effect}
use Rattle.cca_machine.specs.Keys.{cell_with, key_of_label, what_in}
use Rattle.cca_machine.specs.Reruns.{reencipher_for}
use Rattle.cca_machine.specs.State.{State, IsStoreOf}
use Rattle.cca_machine.specs.Verdict.{Refusal, first_refusal, verb_questions, verdict}
use Rattle.cca_laws.specs.EachLabel.{entry_where}
use Rattle.cca_laws.specs.Prepared.{ahead_at, is_ahead_label}
use Rattle.cca_laws.proofs.EffectLaws.{third_passed}
use Rattle.cca_laws.proofs.LabelLaws.{key_kept, old_there, or_true}
use Rattle.cca_laws.proofs.LabelLists.{Alike, Compare, changed_label, entries_compare, entry_for, entry_is, key_is, keys_further}
use Rattle.cca_laws.proofs.LineCases.{after, permitted, refused_none}
use Rattle.cca_laws.proofs.ReplyLaws.{aged_label}

-- ---- what a label finds

pub ahead_where : (es : List (Option Entry)) (o : Option ℕ) → ahead_at es o ≡ is_ahead_entry (entry_where es o)
ahead_where es None = refl
ahead_where es (Some n) = refl

ahead_is : (s : State) (label : List ℕ) → is_ahead_label s label ≡ is_ahead_entry (entry_for label s.labels)
unfolding cell_of
ahead_is s label = ahead_where s.labels (cell_with s label) ∙ ap is_ahead_entry (entry_is label s.labels)

found_is : (s : State) (label : List ℕ) → key_of_label s label ≡ what_in (entry_for label s.labels)
unfolding cell_of
found_is s label = key_is label s.labels

-- each entry compares with what a function makes of it
alike_map : (label : List ℕ) (R : Compare) (f : Option Entry → Option Entry) → ((e : Option Entry) → entry_label (f e) ≡ entry_label e)
    → ((e : Option Entry) → R e (f e)) → (es : List (Option Entry)) → Alike label R es (map f es)
alike_map label R f names each [] = tt
alike_map label R f names each (e ∷ es) = ((ap (has_name label) (names e), λ has. each e), alike_map label R f names each es)

pub further_map : (a : StoreAction) (es : List (Option Entry)) (n : ℕ) → length es ≤ n → further a es n ≡ map (changed_entry a) es
further_map a [] n fits = refl
further_map a (e ∷ es) zero fits = absurd (omega (arith, fits))
further_map a (e ∷ es) (suc n) fits = ap (λ fs. changed_entry a e ∷ fs) (further_map a es n (omega (arith, fits)))

-- a request that no rule refuses
pub performed_is : (s : State) (drawn : List ℕ) (r : Request) → verdict s drawn r ≡ None → (performed s drawn r).state ≡ after s drawn r
unfolding performed
performed_is s drawn r permits = ap (λ (v : Option Refusal). (or_act v s drawn r).state) permits

-- ---- AHEAD

abbrev BecomesAhead : Compare
BecomesAhead a b = (key : Denoted) → what_in a ≡ Some key → key.age ≡ Current → is_ahead_entry b ≡ true

already : (current ahead : Bool) → current ≡ true → (current && not ahead) ≡ false → ahead ≡ true
already true true is none = refl
already true false is none = cc none
already false ahead is none = cc is

made_ahead : (e : Entry) → has_current_key e.what ≡ true → (changed Ahead e).ahead ≡ true
made_ahead e current = by_test (has_current_key e.what && not e.ahead) refl
  where
    by_test : (t : Bool) → (has_current_key e.what && not e.ahead) ≡ t → (if t then made_by Ahead e else e).ahead ≡ true
    by_test true is = refl
    by_test false is = already (has_current_key e.what) e.ahead current is

becomes_ahead : (e : Option Entry) → BecomesAhead e (changed_entry Ahead e)
becomes_ahead None key is current = absurd (none_some key is)
becomes_ahead (Some e) key is current = made_ahead e (ap has_current_key is ∙ ap (λ g. not (is_old g)) current)

current_age : (age : Age) → (age ≡ Old → ⊥) → age ≡ Current
current_age Current never = refl
current_age Old never = absurd (never refl)

pub ahead_after : (s : State) (image drawn role label : List ℕ) (key : Denoted) → IsStoreOf s image → verdict s [] (reencipher_for Ahead role) ≡ None
    → key_of_label s label ≡ Some key
    → (is_ahead_label (performed s drawn (reencipher_for Ahead role)).state label ≡ true) × (key_of_label (performed s drawn (reencipher_for Ahead role)).state label ≡ Some key)
ahead_after s image drawn role label key stands permits is =
    let none_old : any_old s.labels ≡ false = third_passed _ _ (any_old s.labels) 25 26 27 (refused_none _ _ _ (permitted s [] (reencipher_for Ahead role) permits).verb).0 in
    let here : what_in (entry_for label s.labels) ≡ Some key = sym (found_is s label) ∙ is in
    let current : key.age ≡ Current = current_age key.age (λ old. true≢false (sym (old_there label s.labels key here old) ∙ none_old)) in
    let becomes : BecomesAhead (entry_for label s.labels) (entry_for label (map (changed_entry Ahead) s.labels)) =
    entries_compare label BecomesAhead (λ key none. absurd (none_some key none)) s.labels (map (changed_entry Ahead) s.labels)
    (alike_map label BecomesAhead (changed_entry Ahead) (changed_label Ahead) becomes_ahead s.labels) in
    let now : (after s drawn (reencipher_for Ahead role)).labels ≡ map (changed_entry Ahead) s.labels = further_map Ahead s.labels 1024 (omega (arith, stands.size)) in
    let same : (performed s drawn (reencipher_for Ahead role)).state ≡ after s drawn (reencipher_for Ahead role) = performed_is s drawn (reencipher_for Ahead role) permits in (
      ap (λ (t : State). is_ahead_label t label) same
          ∙ (ahead_is (after s drawn (reencipher_for Ahead role)) label ∙ (ap (λ es. is_ahead_entry (entry_for label es)) now ∙ becomes key here current)),
      ap (λ (t : State). key_of_label t label) same
          ∙ (key_kept s label (after s drawn (reencipher_for Ahead role)) (keys_further label Ahead tt s.labels 1024) ∙ is),
    )

-- ---- SET

abbrev BecomesCurrent : Compare
BecomesCurrent a b = (key : Denoted) → what_in a ≡ Some key → is_ahead_entry a ≡ true → what_in b ≡ Some (as_current key.clear)

aged_ahead : (what : Option Denoted) (ahead : Bool) (key : Denoted) → what ≡ Some key → ahead ≡ true → aged_key what ahead ≡ Some (as_current key.clear)
aged_ahead None ahead key is marked = absurd (none_some key is)
aged_ahead (Some d) false key is marked = cc marked
aged_ahead (Some d) true key is marked = ap (λ (k : Denoted). Some (as_current k.clear)) (same_Some d key is)

becomes_current : (masters : MasterKeys) (e : Option Entry) → BecomesCurrent e (aged_entry masters e)
becomes_current masters None key is marked = absurd (none_some key is)
becomes_current masters (Some e) key is marked = aged_ahead e.what e.ahead key is marked

pub current_after : (s : State) (drawn label : List ℕ) (r : Request) (key : Denoted) → r.name ≡ CsnbmkpSet → verdict s drawn r ≡ None
    → key_of_label s label ≡ Some key → is_ahead_label s label ≡ true → key_of_label (performed s drawn r).state label ≡ Some (as_current key.clear)
current_after s drawn label r key set permits is marked =
    let becomes : BecomesCurrent (entry_for label s.labels) (entry_for label (aged (keys_of s.registers) s.labels)) =
    entries_compare label BecomesCurrent (λ key none. absurd (none_some key none)) s.labels (aged (keys_of s.registers) s.labels)
    (alike_map label BecomesCurrent (aged_entry (keys_of s.registers)) (aged_label (keys_of s.registers)) (becomes_current (keys_of s.registers)) s.labels) in
    let now : (after s drawn r).labels ≡ aged (keys_of s.registers) s.labels =
    ap (λ (n : RequestName). (after_effect s (effect s drawn n r)).labels) set in
    ap (λ (t : State). key_of_label t label) (performed_is s drawn r permits)
    ∙ (found_is (after s drawn r) label
    ∙ (ap (λ es. what_in (entry_for label es)) now ∙ becomes key (sym (found_is s label) ∙ is) (sym (ahead_is s label) ∙ marked)))

-- ---- CLEAR

-- a label that is ahead is one of the labels
ahead_there : (label : List ℕ) (es : List (Option Entry)) → is_ahead_entry (entry_for label es) ≡ true → any_ahead_entry es ≡ true
ahead_there label [] is = cc is
ahead_there label (e ∷ es) is = by_test (has_name label (entry_label e)) is (ahead_there label es)
  where
    by_test : (t : Bool) → is_ahead_entry (if t then e else entry_for label es) ≡ true → (is_ahead_entry (entry_for label es) ≡ true → any_ahead_entry es ≡ true)
        → any_ahead_entry (e ∷ es) ≡ true
    by_test true here later = ap (λ b. b || any_ahead_entry es) here
    by_test false there later = ap (λ b. is_ahead_entry e || b) (later there) ∙ or_true (is_ahead_entry e)

clear_passes : (s : State) (r : Request) (name : RequestName) → name ≡ CsnbmkpClear → first_refusal (verb_questions s name r) ≡ None → any_ahead_entry s.labels ≡ false
clear_passes s r name is none =
    let at : first_refusal (verb_questions s CsnbmkpClear r) ≡ None = subst (λ (n : RequestName). first_refusal (verb_questions s n r) ≡ None) is none in
    third_passed false false (any_ahead_entry s.labels) 25 26 33 (refused_none _ _ _ at).0

pub clear_waits : (s : State) (random label : List ℕ) (r : Request) → r.name ≡ CsnbmkpClear → is_ahead_label s label ≡ true → IsSome (verdict s random r)
clear_waits s random label r clear marked = by_verdict (verdict s random r) refl
  where
    by_verdict : (v : Option Refusal) → verdict s random r ≡ v → IsSome v
    by_verdict (Some refusal) permits = refl
    by_verdict None permits =
        absurd (true≢false (sym (ahead_there label s.labels (sym (ahead_is s label) ∙ marked)) ∙ clear_passes s r r.name clear (permitted s random r permits).verb))
