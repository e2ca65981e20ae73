-- What the requests that go through every label make of one: AHEAD and DROP, SET, and REENCIPHER without an action.
use Rattle.std.proofs.Common.{◌≡◌, ◌⊎◌, inl, inr, ℕ, Bool, true, false, List, [], ◌∷◌, map, Option, None, Some, refl, sym, ap, subst, ◌∙◌, arith}
use Rattle.std.specs.Prelude.{if◌then◌else◌}
use Rattle.std.proofs.lemmas.Option.{same_Some}
use Rattle.cca_roles.specs.Directory.{has_name}
use Rattle.cca_roles.proofs.DirectoryLaws.{has_name_is, none_some}
use Rattle.record_bodies.specs.Ages.{has_old_key, is_ahead_entry, is_old as is_old_age}
use Rattle.record_bodies.specs.Entries.{Entry, entry, entry_label}
use Rattle.record_bodies.specs.Turning.{aged, aged_entry, aged_key}
use Rattle.key_tokens.specs.Denotes.{Denoted, MasterKeys}
use Rattle.key_tokens.specs.declared.key_token.Age.{Age}
use Rattle.key_tokens.specs.declared.key_token.Age.TheVariants.{Current, Old}
use Rattle.key_transport.specs.Tokens.{as_current}
use Rattle.record_bodies.specs.Further.{changed_entry, further, made_by, under_current}
use Rattle.record_bodies.specs.declared.actions.StoreAction.{StoreAction}
use Rattle.record_bodies.specs.declared.actions.StoreAction.TheVariants.{Renew, Ahead, Drop}
use Rattle.verb_rules.specs.Keys.{keys_of}
use Rattle.verb_script.specs.Grammar.{Request}
use Rattle.verb_script.specs.declared.rows.RequestName.{RequestName}
use Rattle.verb_script.specs.declared.rows.RequestName.TheVariants.{CsnbmkpSet, Reencipher, ReencipherAhead, ReencipherDrop}
use Rattle.cca_machine.specs.Act.{effect, performed, state_after as after_effect}
use Rattle.cca_machine.specs.Keys.{is_old, key_of_label, what_in}
use Rattle.cca_machine.specs.State.{State, IsStoreOf}
use Rattle.cca_machine.specs.Verdict.{verdict}
use Rattle.cca_machine.proofs.RerunLaws.{by_change}
use Rattle.cca_laws.specs.EachLabel.{IsRenewed, IsTurnedBySet, SameButMark, entry_of_label, key_after, mark_of, marked}
use Rattle.cca_laws.specs.Prepared.{is_ahead_label}
use Rattle.cca_laws.proofs.AheadLaws.{ahead_where, further_map, performed_is}
use Rattle.cca_laws.proofs.LabelLaws.{by_performed, cell_kept, compared}
use Rattle.cca_laws.proofs.LabelLists.{Alike, Compare, alike_further_by, changed_label, what_where}
use Rattle.cca_laws.proofs.LineCases.{after}
use Rattle.cca_laws.proofs.ReplyLaws.{aged_label}

-- ---- what a label finds

key_found : (s : State) (label : List ℕ) → key_of_label s label ≡ what_in (entry_of_label s label)
key_found s label = what_where s.labels _

mark_found : (s : State) (label : List ℕ) → is_ahead_label s label ≡ is_ahead_entry (entry_of_label s label)
mark_found s label = ahead_where s.labels _

-- each entry of the label compares with what a function makes of it
alike_named : (label : List ℕ) (R : Compare) (f : Option Entry → Option Entry) → ((e : Option Entry) → entry_label (f e) ≡ entry_label e)
    → ((e : Option Entry) → has_name label (entry_label e) ≡ true → R e (f e)) → (es : List (Option Entry)) → Alike label R es (map f es)
alike_named label R f names each [] = tt
alike_named label R f names each (e ∷ es) = ((ap (has_name label) (names e), each e), alike_named label R f names each es)

-- ---- AHEAD and DROP

-- as it was, or with the mark
abbrev Marks : Bool → Compare
Marks ahead a b = (b ≡ a) ⊎ (b ≡ marked ahead a)

-- the mark that an action gives
abbrev Gives : StoreAction → Bool → Type 0
Gives a ahead = (e : Entry) → Some (made_by a e) ≡ marked ahead (Some e)

marks_one : (a : StoreAction) (ahead : Bool) → Gives a ahead → (e : Option Entry) → Marks ahead e (changed_entry a e)
marks_one a ahead gives None = inl refl
marks_one a ahead gives (Some e) = by_change (λ (f : Entry). Marks ahead (Some e) (Some f)) a e (inr (gives e)) (inl refl)

module _ (s : State) (label : List ℕ) where
  marks_all : (a : StoreAction) (ahead : Bool) → Gives a ahead → SameButMark ahead s (record s { labels = further a s.labels 1024 }) label
  marks_all a ahead gives =
      let t : State = record s { labels = further a s.labels 1024 } in
      let alike : Alike label (Marks ahead) s.labels t.labels = alike_further_by label (Marks ahead) a (λ e. inl refl) (marks_one a ahead gives) s.labels 1024 in
      record { cell = cell_kept s label (Marks ahead) t alike; entry = compared s label (Marks ahead) (inl refl) t alike }

  marks_named : (drawn : List ℕ) (name : RequestName) (r : Request) (ahead : Bool) → mark_of name ≡ Some ahead → SameButMark ahead s (after_effect s (effect s drawn name r)) label
  marks_named drawn ReencipherAhead r ahead is = marks_all Ahead ahead (λ e. ap (λ (b : Bool). marked b (Some e)) (same_Some true ahead is))
  marks_named drawn ReencipherDrop r ahead is = marks_all Drop ahead (λ e. ap (λ (b : Bool). marked b (Some e)) (same_Some false ahead is))
  marks_named drawn _ r ahead is = absurd (none_some ahead is)

pub marks_kept : (s : State) (drawn label : List ℕ) (r : Request) (ahead : Bool) → mark_of r.name ≡ Some ahead → SameButMark ahead s (performed s drawn r).state label
marks_kept s drawn label r ahead is =
    by_performed (λ (t : State). SameButMark ahead s t label) s drawn r (record { cell = refl; entry = inl refl })
    (λ permits. marks_named s label drawn r.name r ahead is)

-- after DROP no label is ahead
none_ahead : (e : Option Entry) → is_ahead_entry (changed_entry Drop e) ≡ false
none_ahead None = refl
none_ahead (Some e) = by_test e.ahead refl
  where
    by_test : (t : Bool) → e.ahead ≡ t → (if t then made_by Drop e else e).ahead ≡ false
    by_test true is = refl
    by_test false is = is

abbrev EndsUnmarked : Compare
EndsUnmarked a b = is_ahead_entry b ≡ false

pub dropped : (s : State) (image drawn label : List ℕ) (r : Request) → IsStoreOf s image → r.name ≡ ReencipherDrop → verdict s drawn r ≡ None
    → is_ahead_label (performed s drawn r).state label ≡ false
dropped s image drawn label r stands drop permits =
    let now : (after s drawn r).labels ≡ map (changed_entry Drop) s.labels =
    ap (λ (n : RequestName). (after_effect s (effect s drawn n r)).labels) drop ∙ further_map Drop s.labels 1024 (omega (arith, stands.size)) in
    let alike : Alike label EndsUnmarked s.labels (after s drawn r).labels =
    subst (λ (es : List (Option Entry)). Alike label EndsUnmarked s.labels es) (sym now)
    (alike_named label EndsUnmarked (changed_entry Drop) (changed_label Drop) (λ e has. none_ahead e) s.labels) in
    ap (λ (t : State). is_ahead_label t label) (performed_is s drawn r permits)
    ∙ (mark_found (after s drawn r) label ∙ compared s label EndsUnmarked refl (after s drawn r) alike)

-- ---- SET

abbrev Turns : Compare
Turns a b = (what_in b ≡ key_after (is_ahead_entry a) (what_in a)) × (is_ahead_entry b ≡ false)

turns_key : (what : Option Denoted) (ahead : Bool) → aged_key what ahead ≡ key_after ahead what
turns_key None ahead = refl
turns_key (Some key) true = refl
turns_key (Some key) false = refl

turns_one : (masters : MasterKeys) (e : Option Entry) → Turns e (aged_entry masters e)
turns_one masters None = (refl, refl)
turns_one masters (Some e) = (turns_key e.what e.ahead, refl)

pub set_turns : (s : State) (drawn label : List ℕ) (r : Request) → r.name ≡ CsnbmkpSet → verdict s drawn r ≡ None → IsTurnedBySet s (performed s drawn r).state label
set_turns s drawn label r set permits = subst (λ (t : State). IsTurnedBySet s t label) (sym (performed_is s drawn r permits)) turned
  where
    now : (after s drawn r).labels ≡ aged (keys_of s.registers) s.labels
    now = ap (λ (n : RequestName). (after_effect s (effect s drawn n r)).labels) set

    alike : Alike label Turns s.labels (after s drawn r).labels
    alike =
        subst (λ (es : List (Option Entry)). Alike label Turns s.labels es) (sym now)
        (alike_named label Turns (aged_entry (keys_of s.registers)) (aged_label (keys_of s.registers)) (λ e has. turns_one (keys_of s.registers) e) s.labels)

    finds : Turns (entry_of_label s label) (entry_of_label (after s drawn r) label)
    finds = compared s label Turns (refl, refl) (after s drawn r) alike

    turned : IsTurnedBySet s (after s drawn r) label
    turned = record {
      cell = cell_kept s label Turns (after s drawn r) alike;
      key = key_found (after s drawn r) label
          ∙ (finds.0 ∙ (ap (λ (b : Bool). key_after b (what_in (entry_of_label s label))) (sym (mark_found s label))
          ∙ ap (key_after (is_ahead_label s label)) (sym (key_found s label))));
      mark = mark_found (after s drawn r) label ∙ finds.1;
    }

-- ---- REENCIPHER without an action

-- an old key is under the current master key, and any other entry is as it was
abbrev Renews : List ℕ → Compare
Renews label a b =
    ((key : Denoted) → what_in a ≡ Some key → key.age ≡ Old → b ≡ Some (entry label (Some (as_current key.clear))))
    × (is_old (what_in a) ≡ false → b ≡ a)

not_old : (what : Option Denoted) → is_old what ≡ false → has_old_key what ≡ false
not_old None is = refl
not_old (Some key) is = by_age key.age is
  where
    by_age : (age : Age) → is_old (Some (record { clear = key.clear; age = age })) ≡ false → is_old_age age ≡ false
    by_age Current same = refl
    by_age Old same = cc same

renews_one : (label : List ℕ) (e : Option Entry) → has_name label (entry_label e) ≡ true → Renews label e (changed_entry Renew e)
renews_one label None has = (λ key is old. absurd (none_some key is), λ never. refl)
renews_one label (Some e) has = (
  λ key is old.
      ap (λ (t : Bool). Some (if t then made_by Renew e else e)) (ap has_old_key is ∙ ap is_old_age old)
      ∙ (ap (λ (w : Option Denoted). Some (entry e.label (under_current w))) is ∙ ap (λ (l : List ℕ). Some (entry l (Some (as_current key.clear)))) named),
  λ never. ap (λ (t : Bool). Some (if t then made_by Renew e else e)) (not_old e.what never),
)
  where
    named : e.label ≡ label
    named = same_Some e.label label (has_name_is label (Some e.label) has)

pub renewed : (s : State) (image drawn label : List ℕ) (r : Request) → IsStoreOf s image → r.name ≡ Reencipher → verdict s drawn r ≡ None
    → IsRenewed s (performed s drawn r).state label
renewed s image drawn label r stands renew permits = subst (λ (t : State). IsRenewed s t label) (sym (performed_is s drawn r permits)) all
  where
    now : (after s drawn r).labels ≡ map (changed_entry Renew) s.labels
    now = ap (λ (n : RequestName). (after_effect s (effect s drawn n r)).labels) renew ∙ further_map Renew s.labels 1024 (omega (arith, stands.size))

    alike : Alike label (Renews label) s.labels (after s drawn r).labels
    alike =
        subst (λ (es : List (Option Entry)). Alike label (Renews label) s.labels es) (sym now)
        (alike_named label (Renews label) (changed_entry Renew) (changed_label Renew) (renews_one label) s.labels)

    finds : Renews label (entry_of_label s label) (entry_of_label (after s drawn r) label)
    finds = compared s label (Renews label) (λ key is old. absurd (none_some key is), λ never. refl) (after s drawn r) alike

    all : IsRenewed s (after s drawn r) label
    all = record {
      cell = cell_kept s label (Renews label) (after s drawn r) alike;
      old = λ key is old. finds.0 key (sym (key_found s label) ∙ is) old;
      others = λ never. finds.1 (ap is_old (sym (key_found s label)) ∙ never);
    }
