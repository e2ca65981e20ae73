-- What a request leaves of the labels that it isn't given.
use Rattle.std.proofs.Common.{◌≡◌, ◌≢◌, ℕ, Bool, true, false, List, [], ◌∷◌, Option, None, Some, ⊎_elim, refl, sym, ap, subst, ◌∙◌, codes, ◌||◌, IsSome, true≢false}
use Rattle.std.specs.Prelude.{⊤, if◌then◌else◌}
use Rattle.cca_roles.specs.Directory.{has_name}
use Rattle.record_bodies.specs.Ages.{any_old, has_old_key, is_old, is_old_entry}
use Rattle.record_bodies.specs.Directory.{cell_of, free_cell}
use Rattle.record_bodies.specs.LabelChanges.{null_entry, with_what}
use Rattle.record_bodies.specs.Entries.{Entry, directory, entry_label}
use Rattle.record_bodies.specs.StoreStands.{entry_at}
use Rattle.record_bodies.specs.Turning.{aged}
use Rattle.key_tokens.specs.Denotes.{ClearKey, Denoted}
use Rattle.key_tokens.specs.declared.key_token.Age.TheVariants.{Old}
use Rattle.line_service.specs.Replies.{Field}
use Rattle.verb_script.specs.Grammar.{Request, value_of}
use Rattle.verb_script.specs.declared.rows.RequestName.{RequestName}
use Rattle.verb_script.specs.declared.rows.RequestName.TheVariants.{Csnbcki, CsnbkgnOp, CsnbkgnPair, Csnbkim, Csnbpex, CsnbkpiFirst, CsnbkpiMiddle, Csnbkrc, CsnbmkpPart, CsnbmkpClear, CsnbmkpSet, Reencipher, ReencipherAhead, ReencipherDrop}
use Rattle.verb_script.specs.Named.{label_named}
use Rattle.verb_rules.specs.Keys.{keys_of}
use Rattle.cca_machine.specs.Act.{Effect, Show, Become, DefineRole, RemoveRole, Create, Write, Delete, ChangeLabels, delivered_with, effect, state_after as after_effect, or_act, performed, written_in, deleted_in}
use Rattle.cca_machine.specs.Keys.{cell_with, key_of_label, what_at, what_in}
use Rattle.cca_machine.specs.Operands.{listed, operands_of}
use Rattle.cca_machine.specs.Session.{state_after}
use Rattle.cca_machine.specs.State.{State}
use Rattle.cca_machine.specs.Verdict.{Refusal, first_refusal, verb_questions, verdict}
use Rattle.cca_laws.specs.EachLabel.{SameEntry, changes_each, entry_of_label}
use Rattle.cca_laws.specs.EachLine.{EachRequest}
use Rattle.cca_laws.specs.Targets.{AreOther, Spares, changes_ages, clear_of_label}
use Rattle.cca_laws.proofs.EffectLaws.{Fits, effect_fits, third_passed}
use Rattle.cca_laws.proofs.LabelLists.{Alike, Compare, Same, SameClear, SameKey, alike_aged, alike_further, alike_itself, alike_set, as_clear, clear_in, entries_compare, entry_for, entry_is, has_other, key_is, label_kept, place_free, place_other, same_cell}
use Rattle.cca_laws.proofs.LineCases.{after, over_lines, permitted, refused_none}

-- ---- one effect

module _ (s : State) (label : List ℕ) where
  -- the effect isn't on this label
  abbrev pub IsElsewhere : Effect → Type 0
  IsElsewhere (Create other) = other ≢ label
  IsElsewhere (Write other key fields) = (n : ℕ) → cell_with s other ≡ Some n → other ≢ label
  IsElsewhere (Delete other) = (n : ℕ) → cell_with s other ≡ Some n → other ≢ label
  IsElsewhere _ = ⊤

  -- the effect goes through no labels
  abbrev pub IsStill : Effect → Type 0
  IsStill (Become m labels) = labels ≡ s.labels
  IsStill (ChangeLabels a) = ⊥
  IsStill _ = ⊤

  created_alike : (other : List ℕ) → other ≢ label → Alike label Same s.labels (after_effect s (Create other)).labels
  unfolding free_cell
  created_alike other apart =
      alike_set label s.labels (free_cell (directory s.labels)) (Some (null_entry other)) (place_free label s.labels) (has_other label other apart)

  module _ (other : List ℕ) (apart : (n : ℕ) → cell_with s other ≡ Some n → other ≢ label) where
    written_alike : (key : Denoted) (fields : List Field) → Alike label Same s.labels (after_effect s (Write other key fields)).labels
    unfolding cell_of
    written_alike key fields = by_cell (cell_with s other) refl
      where
        by_cell : (o : Option ℕ) → cell_with s other ≡ o → Alike label Same s.labels (written_in o key s.labels)
        by_cell None is = alike_itself label s.labels
        by_cell (Some n) is =
            let before : has_name label (entry_label (entry_at s.labels n)) ≡ false = place_other label other s.labels n (apart n is) is in
            alike_set label s.labels n (with_what key (entry_at s.labels n)) before (ap (has_name label) (label_kept key (entry_at s.labels n)) ∙ before)

    deleted_alike : Alike label Same s.labels (after_effect s (Delete other)).labels
    unfolding cell_of
    deleted_alike = by_cell (cell_with s other) refl
      where
        by_cell : (o : Option ℕ) → cell_with s other ≡ o → Alike label Same s.labels (deleted_in o s.labels)
        by_cell None is = alike_itself label s.labels
        by_cell (Some n) is = alike_set label s.labels n None (place_other label other s.labels n (apart n is) is) refl

  -- an effect that goes through no labels leaves every other label as it was
  whole_alike : (e : Effect) → IsElsewhere e → IsStill e → Alike label Same s.labels (after_effect s e).labels
  whole_alike (Become m labels) elsewhere still =
      subst (λ (ls : List (Option Entry)). Alike label Same s.labels ls) (sym still) (alike_itself label s.labels)
  whole_alike (Create other) elsewhere still = created_alike other elsewhere
  whole_alike (Write other key fields) elsewhere still = written_alike other elsewhere key fields
  whole_alike (Delete other) elsewhere still = deleted_alike other elsewhere
  whole_alike (ChangeLabels a) elsewhere still = absurd still
  whole_alike (Show fields) elsewhere still = alike_itself label s.labels
  whole_alike (DefineRole name points) elsewhere still = alike_itself label s.labels
  whole_alike (RemoveRole name) elsewhere still = alike_itself label s.labels

  pub clear_alike : (name : RequestName) (r : Request) (e : Effect) → Fits s name r e → IsElsewhere e → Alike label SameClear s.labels (after_effect s e).labels
  clear_alike name r (Become m labels) fits elsewhere = ⊎_elim
      (λ (same : labels ≡ s.labels). subst (λ (ls : List (Option Entry)). Alike label SameClear s.labels ls) (sym same) all_same)
      (λ (age : labels ≡ aged (keys_of s.registers) s.labels). subst (λ (ls : List (Option Entry)). Alike label SameClear s.labels ls) (sym age)
      (alike_aged (keys_of s.registers) label s.labels))
      fits
    where
      all_same : Alike label SameClear s.labels s.labels
      all_same = as_clear label s.labels s.labels (alike_itself label s.labels)
  clear_alike name r (ChangeLabels a) fits elsewhere = alike_further label a s.labels 1024
  clear_alike name r (Create other) fits elsewhere = as_clear label s.labels _ (created_alike other elsewhere)
  clear_alike name r (Write other key fields) fits elsewhere = as_clear label s.labels _ (written_alike other elsewhere key fields)
  clear_alike name r (Delete other) fits elsewhere = as_clear label s.labels _ (deleted_alike other elsewhere)
  clear_alike name r (Show fields) fits elsewhere = as_clear label s.labels s.labels (alike_itself label s.labels)
  clear_alike name r (DefineRole role points) fits elsewhere = as_clear label s.labels s.labels (alike_itself label s.labels)
  clear_alike name r (RemoveRole role) fits elsewhere = as_clear label s.labels s.labels (alike_itself label s.labels)

  -- ---- where an effect is elsewhere

  none_some : (n : ℕ) → None ≡ Some n → ⊥
  none_some n is = cc

  -- of a label that is held, and isn't given
  pub held_elsewhere : (cell : ℕ) (name : RequestName) (r : Request) → cell_with s label ≡ Some cell → AreOther label (listed (operands_of name r))
      → (e : Effect) → Fits s name r e → IsElsewhere e
  held_elsewhere cell name r held spared (Create other) fits =
      λ same. none_some cell (sym fits.fresh ∙ (ap (λ l. cell_with s l) same ∙ held))
  held_elsewhere cell name r held spared (Write other key fields) fits = λ n is. fits label spared
  held_elsewhere cell name r held spared (Delete other) fits = λ n is. fits label spared
  held_elsewhere cell name r held spared _ fits = tt

  -- of a label that isn't held, and isn't created
  pub free_elsewhere : (name : RequestName) (r : Request) → cell_with s label ≡ None → (name ≡ Csnbkrc → value_of r (codes "label") ≢ label)
      → (e : Effect) → Fits s name r e → IsElsewhere e
  free_elsewhere name r free apart (Create other) fits = λ same. apart fits.verb (sym fits.named ∙ same)
  free_elsewhere name r free apart (Write other key fields) fits = λ n is same. none_some n (sym free ∙ (ap (λ l. cell_with s l) (sym same) ∙ is))
  free_elsewhere name r free apart (Delete other) fits = λ n is same. none_some n (sym free ∙ (ap (λ l. cell_with s l) (sym same) ∙ is))
  free_elsewhere name r free apart _ fits = tt

  -- ---- what the label finds afterwards

  pub cell_kept : (R : Compare) (t : State) → Alike label R s.labels t.labels → cell_with t label ≡ cell_with s label
  unfolding cell_of
  cell_kept R t alike = same_cell label R s.labels t.labels alike

  pub clear_kept : (t : State) → Alike label SameClear s.labels t.labels → clear_of_label t label ≡ clear_of_label s label
  unfolding cell_of
  clear_kept t alike =
      ap clear_in (key_is label t.labels) ∙ (entries_compare label SameClear refl s.labels t.labels alike ∙ ap clear_in (sym (key_is label s.labels)))

  -- how the entries compare that the label finds
  pub compared : (R : Compare) → R None None → (t : State) → Alike label R s.labels t.labels → R (entry_of_label s label) (entry_of_label t label)
  unfolding cell_of
  compared R none t alike =
      subst (λ (e : Option Entry). R e (entry_of_label t label)) (sym (entry_is label s.labels))
      (subst (λ (e : Option Entry). R (entry_for label s.labels) e) (sym (entry_is label t.labels)) (entries_compare label R none s.labels t.labels alike))

  pub same_entry : (t : State) → Alike label Same s.labels t.labels → SameEntry s t label
  same_entry t alike = record { cell = cell_kept Same t alike; entry = sym (compared Same refl t alike) }

  pub key_kept : (t : State) → Alike label SameKey s.labels t.labels → key_of_label t label ≡ key_of_label s label
  unfolding cell_of
  key_kept t alike = key_is label t.labels ∙ (entries_compare label SameKey refl s.labels t.labels alike ∙ sym (key_is label s.labels))

-- ---- each request

still_delivery : (s : State) (l field : List ℕ) (to : Option (List ℕ)) (key : Denoted) (fields : List Field) → IsStill s l (delivered_with s field to key fields)
still_delivery s l field None key fields = tt
still_delivery s l field (Some label) key fields = tt

still_one : (s : State) (drawn l : List ℕ) (name : RequestName) (r : Request) → changes_each name ≡ false → IsStill s l (effect s drawn name r)
still_one s drawn l Csnbcki r keeps = still_delivery s l _ (label_named (value_of r (codes "to"))) _ _
still_one s drawn l CsnbkgnOp r keeps = still_delivery s l _ (label_named (value_of r (codes "to"))) _ _
still_one s drawn l CsnbkgnPair r keeps = still_delivery s l _ (label_named (value_of r (codes "to"))) _ _
still_one s drawn l Csnbkim r keeps = still_delivery s l _ (label_named (value_of r (codes "to"))) _ _
still_one s drawn l Csnbpex r keeps = still_delivery s l _ (label_named (value_of r (codes "to"))) _ _
still_one s drawn l CsnbkpiFirst r keeps = still_delivery s l _ (label_named (value_of r (codes "to"))) _ _
still_one s drawn l CsnbkpiMiddle r keeps = still_delivery s l _ (label_named (value_of r (codes "to"))) _ _
still_one s drawn l CsnbmkpPart r keeps = refl
still_one s drawn l CsnbmkpClear r keeps = refl
still_one s drawn l CsnbmkpSet r keeps = cc keeps
still_one s drawn l Reencipher r keeps = cc keeps
still_one s drawn l ReencipherAhead r keeps = cc keeps
still_one s drawn l ReencipherDrop r keeps = cc keeps
still_one s drawn l _ r keeps = tt

pub by_performed : (P : State → Type 0) (s : State) (drawn : List ℕ) (r : Request) → P s → (verdict s drawn r ≡ None → P (after s drawn r)) → P (performed s drawn r).state
unfolding performed
by_performed P s drawn r before next = by_verdict (verdict s drawn r) refl
  where
    by_verdict : (v : Option Refusal) → verdict s drawn r ≡ v → P (or_act v s drawn r).state
    by_verdict (Some refusal) is = before
    by_verdict None is = next is

module _ (s : State) (drawn label : List ℕ) (r : Request) where
  held_after : (cell : ℕ) → Spares label r → cell_with s label ≡ Some cell → verdict s drawn r ≡ None → Alike label SameClear s.labels (after s drawn r).labels
  held_after cell spared held permits =
      let fits = effect_fits s drawn r permits in
      clear_alike s label r.name r (effect s drawn r.name r) fits (held_elsewhere s label cell r.name r held spared (effect s drawn r.name r) fits)

  pub others_kept : (cell : ℕ) → Spares label r → cell_with s label ≡ Some cell
      → (cell_with (performed s drawn r).state label ≡ Some cell) × (clear_of_label (performed s drawn r).state label ≡ clear_of_label s label)
  others_kept cell spared held =
      by_performed (λ (t : State). (cell_with t label ≡ Some cell) × (clear_of_label t label ≡ clear_of_label s label)) s drawn r (held, refl)
      (λ permits. let alike = held_after cell spared held permits in
      (cell_kept s label SameClear (after s drawn r) alike ∙ held, clear_kept s label (after s drawn r) alike))

  pub whole_kept : (cell : ℕ) → Spares label r → cell_with s label ≡ Some cell → changes_each r.name ≡ false → SameEntry s (performed s drawn r).state label
  whole_kept cell spared held keeps =
      by_performed (λ (t : State). SameEntry s t label) s drawn r (record { cell = refl; entry = refl })
      (λ permits. let fits = effect_fits s drawn r permits in
      same_entry s label (after s drawn r)
      (whole_alike s label (effect s drawn r.name r) (held_elsewhere s label cell r.name r held spared (effect s drawn r.name r) fits)
      (still_one s drawn label r.name r keeps)))

  pub stays_free : cell_with s label ≡ None → (r.name ≡ Csnbkrc → value_of r (codes "label") ≢ label) → cell_with (performed s drawn r).state label ≡ None
  stays_free free apart =
      by_performed (λ (t : State). cell_with t label ≡ None) s drawn r free
      (λ permits. let fits = effect_fits s drawn r permits in
      cell_kept s label SameClear (after s drawn r)
      (clear_alike s label r.name r (effect s drawn r.name r) fits (free_elsewhere s label r.name r free apart (effect s drawn r.name r) fits)) ∙ free)

-- ---- over lines

-- a label that has a key is held
held_with : (s : State) (label : List ℕ) (key : ClearKey) → clear_of_label s label ≡ Some key → (cell : ℕ) × (cell_with s label ≡ Some cell)
held_with s label key is = by_cell (cell_with s label) refl
  where
    by_cell : (o : Option ℕ) → cell_with s label ≡ o → (cell : ℕ) × (cell_with s label ≡ Some cell)
    by_cell (Some cell) held = (cell, held)
    by_cell None free =
        let none : None ≡ Some key = sym (ap (λ (o : Option ℕ). clear_in (what_at s.labels o)) free) ∙ is in cc

pub kept_over : (s : State) (random label : List ℕ) (lines : List (List ℕ)) (key : ClearKey) → EachRequest (λ _ r. Spares label r) s random lines
    → clear_of_label s label ≡ Some key → clear_of_label (state_after s random lines) label ≡ Some key
kept_over s random label lines key each is =
    over_lines (λ (t : State). clear_of_label t label ≡ Some key) (λ _ r. Spares label r)
    (λ t drawn r now spared permits.
    let held = held_with t label key now in
    clear_kept t label (after t drawn r) (held_after t drawn label r held.0 spared held.1 permits) ∙ now)
    s random lines is each

aging : (s : State) (drawn label : List ℕ) (name : RequestName) (r : Request) → changes_ages name ≡ true → Fits s name r (effect s drawn name r)
    → Alike label SameClear s.labels (after_effect s (effect s drawn name r)).labels
aging s drawn label CsnbmkpSet r is fits = clear_alike s label CsnbmkpSet r (effect s drawn CsnbmkpSet r) fits tt
aging s drawn label Reencipher r is fits = clear_alike s label Reencipher r (effect s drawn Reencipher r) fits tt
aging s drawn label _ r is fits = cc is

pub aging_keeps : (s : State) (drawn label : List ℕ) (r : Request) → changes_ages r.name ≡ true
    → clear_of_label (performed s drawn r).state label ≡ clear_of_label s label
aging_keeps s drawn label r is =
    by_performed (λ (t : State). clear_of_label t label ≡ clear_of_label s label) s drawn r refl
    (λ permits. clear_kept s label (after s drawn r) (aging s drawn label r.name r is (effect_fits s drawn r permits)))

-- ---- SET

pub or_true : (b : Bool) → (b || true) ≡ true
or_true true = refl
or_true false = refl

pub old_there : (label : List ℕ) (es : List (Option Entry)) (key : Denoted) → what_in (entry_for label es) ≡ Some key → key.age ≡ Old → any_old es ≡ true
old_there label [] key is old = cc is
old_there label (e ∷ es) key is old = by_test (has_name label (entry_label e)) is (old_there label es key)
  where
    old_here : (x : Option Entry) → what_in x ≡ Some key → is_old_entry x ≡ true
    old_here None same = cc same
    old_here (Some x) same = ap has_old_key same ∙ ap is_old old

    by_test : (t : Bool) → what_in (if t then e else entry_for label es) ≡ Some key → (what_in (entry_for label es) ≡ Some key → key.age ≡ Old → any_old es ≡ true)
        → any_old (e ∷ es) ≡ true
    by_test true here later = ap (λ b. b || any_old es) (old_here e here)
    by_test false there later = ap (λ b. is_old_entry e || b) (later there old) ∙ or_true (is_old_entry e)

set_passes : (s : State) (r : Request) (name : RequestName) → name ≡ CsnbmkpSet → first_refusal (verb_questions s name r) ≡ None → any_old s.labels ≡ false
set_passes s r name is none =
    let at : first_refusal (verb_questions s CsnbmkpSet r) ≡ None = subst (λ (n : RequestName). first_refusal (verb_questions s n r) ≡ None) is none in
    third_passed _ _ (any_old s.labels) 25 26 27 (refused_none _ _ _ at).0

pub set_waits : (s : State) (random label : List ℕ) (r : Request) (key : Denoted) → key_of_label s label ≡ Some key → key.age ≡ Old → r.name ≡ CsnbmkpSet
    → IsSome (verdict s random r)
unfolding cell_of
set_waits s random label r key is old set = by_verdict (verdict s random r) refl
  where
    by_verdict : (v : Option Refusal) → verdict s random r ≡ v → IsSome v
    by_verdict (Some refusal) permits = refl
    by_verdict None permits =
        let none : any_old s.labels ≡ false = set_passes s r r.name set (permitted s random r permits).verb in
        absurd (true≢false (sym (old_there label s.labels key (sym (key_is label s.labels) ∙ is) old) ∙ none))
