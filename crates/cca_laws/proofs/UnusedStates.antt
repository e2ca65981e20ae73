-- States that differ in unused tokens alone do the same.
use Rattle.std.proofs.Common.{◌≡◌, ℕ, zero, suc, ◌+◌, Bool, cond, fold, true, false, List, [], ◌∷◌, ◌++◌, map, set, take, drop, Option, None, Some, refl, sym, ap, ap₂, subst, ◌∙◌, codes}
use Rattle.std.specs.Prelude.{is_none, is_some, ◌||◌, ◌==◌, if◌then◌else◌}
use Rattle.cca_vectors.specs.Checks.{check, first_failing}
use Rattle.cca_roles.specs.Roles.{after_define, after_remove}
use Rattle.key_parts.specs.Parts.{combined_key}
use Rattle.record_bodies.specs.Ages.{any_ahead_entry, any_old, is_ahead_entry, is_old_entry}
use Rattle.record_bodies.specs.LabelChanges.{null_entry, with_what}
use Rattle.record_bodies.specs.Directory.{cell_of, free_cell}
use Rattle.record_bodies.specs.Entries.{Entry, directory, entry_label, what_in}
use Rattle.record_bodies.specs.StoreStands.{entry_at}
use Rattle.record_bodies.specs.Turning.{aged, aged_entry}
use Rattle.key_tokens.specs.Denotes.{ClearKey, Denoted, MasterKeys}
use Rattle.key_transport.specs.Tokens.{as_current, closed_key}
use Rattle.master_registers.specs.Actions.{after_action}
use Rattle.master_registers.specs.Masters.{Masters}
use Rattle.master_registers.specs.declared.actions.Action.TheVariants.{Clear, Set}
use Rattle.record_bodies.specs.Further.{changed_count, changed_entry, further, is_changed, is_changed_by, made_by}
use Rattle.record_bodies.specs.declared.actions.StoreAction.{StoreAction}
use Rattle.record_bodies.specs.declared.actions.StoreAction.TheVariants.{Renew, Ahead, Drop}
use Rattle.line_service.specs.Replies.{Field, Number, spelled}
use Rattle.verb_rules.specs.Keys.{keys_of}
use Rattle.verb_script.specs.Grammar.{Request, value_of}
use Rattle.verb_script.specs.declared.rows.RequestName.{RequestName}
use Rattle.verb_script.specs.declared.rows.RequestName.TheVariants.{Csnbcki, CsnbkgnOp, CsnbkgnPair, Csnbkim, Csnbpex, Csnbktc, CsnbkpiFirst, CsnbkpiMiddle, Csnbkrc, Csnbkrw, Csnbkrd, Csnbkrl, CsnbmkpPart, CsnbmkpClear, CsnbmkpSet, CsuaaciDefine, CsuaaciRemove, Reencipher, ReencipherAhead, ReencipherDrop}
use Rattle.verb_script.specs.Named.{label_named}
use Rattle.verb_script.specs.Requests.{request_of}
use Rattle.cca_roles.specs.declared.roles.Role.{Role}
use Rattle.cca_machine.specs.Act.{delivered_with, deleted_in, effect, fields_after, or_act, performed, points_in, state_after, written_in}
use Rattle.cca_machine.specs.Actions.{action_checks, part_action}
use Rattle.cca_machine.specs.Choices.{is_last_part}
use Rattle.cca_machine.specs.Draws.{bytes_drawn, draw_of}
use Rattle.cca_machine.specs.Keys.{cell_with, imported, key_in_field, key_named, key_of_label, or_no_key, what_at}
use Rattle.cca_machine.specs.Lines.{drawn_where, line_checks, line_outcome, outcome_by, taken_by}
use Rattle.cca_machine.specs.Listing.{label_fields}
use Rattle.cca_machine.specs.Operands.{Operand, listed, operands, operands_of}
use Rattle.cca_machine.specs.Session.{random_after, replies, state_after as state_after_lines}
use Rattle.cca_machine.specs.State.{State}
use Rattle.cca_machine.specs.Verdict.{Questions, Refusal, ahead_checks, bytes_in, early_verdict, part_in, questions, verb_questions, verdict}
use Rattle.cca_machine.proofs.DrawLaws.{verdict_empty}
use Rattle.cca_laws.specs.NamedLabels.{SameNamed}
use Rattle.cca_laws.specs.UnusedTokens.{SameButUnused, without_unused}
use Rattle.cca_laws.proofs.NamedLaws.{fields_same, replies_same, verb_same, verdict_same}

-- ---- entries

abbrev bare_all : List (Option Entry) → List (Option Entry)
bare_all es = map without_unused es

bare_twice : (e : Option Entry) → without_unused (without_unused e) ≡ without_unused e
bare_twice None = refl
bare_twice (Some e) = refl

bare_label : (e : Option Entry) → entry_label (without_unused e) ≡ entry_label e
bare_label None = refl
bare_label (Some e) = refl

bare_what : (e : Option Entry) → what_in (without_unused e) ≡ what_in e
bare_what None = refl
bare_what (Some e) = refl

bare_old : (e : Option Entry) → is_old_entry (without_unused e) ≡ is_old_entry e
bare_old None = refl
bare_old (Some e) = refl

bare_ahead : (e : Option Entry) → is_ahead_entry (without_unused e) ≡ is_ahead_entry e
bare_ahead None = refl
bare_ahead (Some e) = refl

bare_aged : (masters : MasterKeys) (e : Option Entry) → without_unused (aged_entry masters (without_unused e)) ≡ without_unused (aged_entry masters e)
bare_aged masters None = refl
bare_aged masters (Some e) = refl

bare_with : (key : Denoted) (e : Option Entry) → with_what key (without_unused e) ≡ with_what key e
bare_with key None = refl
bare_with key (Some e) = refl

bare_changed_by : (a : StoreAction) (e : Entry) → is_changed_by a (record e { unused = None }) ≡ is_changed_by a e
bare_changed_by Renew e = refl
bare_changed_by Ahead e = refl
bare_changed_by Drop e = refl

bare_is_changed : (a : StoreAction) (e : Option Entry) → is_changed a (without_unused e) ≡ is_changed a e
bare_is_changed a None = refl
bare_is_changed a (Some e) = bare_changed_by a e

bare_made : (a : StoreAction) (e : Entry) → made_by a (record e { unused = None }) ≡ made_by a e
bare_made Renew e = refl
bare_made Ahead e = refl
bare_made Drop e = refl

bare_changed : (a : StoreAction) (e : Option Entry) → without_unused (changed_entry a (without_unused e)) ≡ without_unused (changed_entry a e)
bare_changed a None = refl
bare_changed a (Some e) =
    ap₂ (λ (t : Bool) (made : Entry). without_unused (Some (if t then made else record e { unused = None }))) (bare_changed_by a e) (bare_made a e)
    ∙ by_test (is_changed_by a e)
  where
    by_test : (t : Bool) → without_unused (Some (if t then made_by a e else record e { unused = None })) ≡ without_unused (Some (if t then made_by a e else e))
    by_test true = refl
    by_test false = refl

-- ---- the places of a store

abbrev Entries : Type 0
Entries = List (Option Entry)

all_twice : (es : Entries) → bare_all (bare_all es) ≡ bare_all es
all_twice [] = refl
all_twice (e ∷ es) = ap₂ (λ (x : Option Entry) (xs : Entries). x ∷ xs) (bare_twice e) (all_twice es)

all_labels : (es : Entries) → directory (bare_all es) ≡ directory es
all_labels [] = refl
all_labels (e ∷ es) = ap₂ (λ (x : Option (List ℕ)) (xs : List (Option (List ℕ))). x ∷ xs) (bare_label e) (all_labels es)

all_old : (es : Entries) → any_old (bare_all es) ≡ any_old es
all_old [] = refl
all_old (e ∷ es) = ap₂ (λ (a b : Bool). a || b) (bare_old e) (all_old es)

all_ahead : (es : Entries) → any_ahead_entry (bare_all es) ≡ any_ahead_entry es
all_ahead [] = refl
all_ahead (e ∷ es) = ap₂ (λ (a b : Bool). a || b) (bare_ahead e) (all_ahead es)

abbrev counted_from : StoreAction → ℕ → Entries → ℕ
counted_from a n es = fold (λ (k : ℕ) (e : Option Entry). k + cond (is_changed a e) 1 0) n es

all_from : (a : StoreAction) (n : ℕ) (es : Entries) → counted_from a n (bare_all es) ≡ counted_from a n es
all_from a n [] = refl
all_from a n (e ∷ es) = ap (λ (t : Bool). counted_from a (n + cond t 1 0) (bare_all es)) (bare_is_changed a e) ∙ all_from a (n + cond (is_changed a e) 1 0) es

all_count : (a : StoreAction) (es : Entries) → changed_count a (bare_all es) ≡ changed_count a es
all_count a es = all_from a 0 es

at_cell : (es : Entries) (n : ℕ) → entry_at (bare_all es) n ≡ without_unused (entry_at es n)
at_cell [] n = refl
at_cell (e ∷ es) zero = refl
at_cell (e ∷ es) (suc n) = at_cell es n

all_set : (es : Entries) (n : ℕ) (e : Option Entry) → bare_all (set es n e) ≡ set (bare_all es) n (without_unused e)
all_set [] n e = refl
all_set (x ∷ xs) zero e = refl
all_set (x ∷ xs) (suc n) e = ap (λ (ys : Entries). without_unused x ∷ ys) (all_set xs n e)

-- a place of the bare labels that is set, and one of the labels
set_bare : (es : Entries) (n : ℕ) (e f : Option Entry) → without_unused e ≡ without_unused f → bare_all (set (bare_all es) n e) ≡ bare_all (set es n f)
set_bare es n e f same =
    all_set (bare_all es) n e
    ∙ (ap₂ (λ (xs : Entries) (x : Option Entry). set xs n x) (all_twice es) same
    ∙ sym (all_set es n f))

all_aged : (masters : MasterKeys) (es : Entries) → bare_all (aged masters (bare_all es)) ≡ bare_all (aged masters es)
all_aged masters [] = refl
all_aged masters (e ∷ es) = ap₂ (λ (x : Option Entry) (xs : Entries). x ∷ xs) (bare_aged masters e) (all_aged masters es)

all_further : (a : StoreAction) (es : Entries) (n : ℕ) → bare_all (further a (bare_all es) n) ≡ bare_all (further a es n)
all_further a [] n = refl
all_further a (e ∷ es) zero = all_twice (e ∷ es)
all_further a (e ∷ es) (suc n) = ap₂ (λ (x : Option Entry) (xs : Entries). x ∷ xs) (bare_changed a e) (all_further a es n)

-- ---- a state

abbrev pub bare : State → State
bare s = record s { labels = bare_all s.labels }

module _ (s : State) where
  cell_same : (label : List ℕ) → cell_with (bare s) label ≡ cell_with s label
  cell_same label = ap (cell_of label) (all_labels s.labels)

  what_same : (o : Option ℕ) → what_at (bare_all s.labels) o ≡ what_at s.labels o
  what_same None = refl
  what_same (Some n) = ap what_in (at_cell s.labels n) ∙ bare_what (entry_at s.labels n)

  label_same : (label : List ℕ) → key_of_label (bare s) label ≡ key_of_label s label
  label_same label = ap (what_at (bare_all s.labels)) (cell_same label) ∙ what_same (cell_with s label)

  named_same : (named : Option (List ℕ)) (text : List ℕ) → key_named (bare s) named text ≡ key_named s named text
  named_same None text = refl
  named_same (Some label) text = label_same label

  field_is : (r : Request) (name : List ℕ) → key_in_field (bare s) r name ≡ key_in_field s r name
  field_is r name = ap (λ (key : Option Denoted). (or_no_key key).clear) (named_same (label_named (value_of r name)) (value_of r name))

  known : (os : List Operand) → SameNamed s (bare s) os
  known [] = tt
  known (o ∷ os) = (λ label is. record { held = ap (λ (c : Option ℕ). is_none c) (cell_same label); key = label_same label }, known os)

  -- ---- the verdict

  verbs : (name : RequestName) (r : Request) → verb_questions (bare s) name r ≡ verb_questions s name r
  verbs Csnbkrc r =
      ap (λ (d : List (Option (List ℕ))). let qs : List Questions = questions (codes "label") (check 28 (free_cell d == 1024) ∷ check 29 (is_some (cell_of (value_of r (codes "label")) d)) ∷ []) ∷ [] in qs)
      (all_labels s.labels)
  verbs Csnbkrl r = refl
  verbs CsnbmkpClear r =
      ap (λ (b : Bool). let qs : List Questions = questions (codes "-") (check 25 false ∷ check 26 false ∷ check 33 b ∷ []) ∷ [] in qs) (all_ahead s.labels)
  verbs CsnbmkpSet r =
      ap (λ (b : Bool). let qs : List Questions = questions (codes "-") (action_checks Set s.registers ++ (check 27 b ∷ [])) ∷ [] in qs) (all_old s.labels)
  verbs Reencipher r = refl
  verbs ReencipherAhead r = ap (λ (b : Bool). let qs : List Questions = questions (codes "-") (ahead_checks s.registers b) ∷ [] in qs) (all_old s.labels)
  verbs ReencipherDrop r = refl
  verbs name r = verb_same s s.registers.coming (bare_all s.labels) refl name r refl (known (listed (operands_of name r)))

  pub bare_verdict : (random : List ℕ) (r : Request) → verdict (bare s) random r ≡ verdict s random r
  bare_verdict random r = verdict_same s s.registers.coming (bare_all s.labels) refl random r (known (listed (operands r))) (verbs r.name r)

  bare_early : (r : Request) → early_verdict (bare s) r ≡ early_verdict s r
  bare_early r = sym (verdict_empty (bare s) r) ∙ (bare_verdict [] r ∙ verdict_empty s r)

  pub bare_taken : (random : List ℕ) (r : Request) → taken_by (bare s) random r ≡ taken_by s random r
  bare_taken random r = ap (λ (v : Option Refusal). drawn_where v (bytes_drawn (draw_of r.name r) random)) (bare_early r)

  -- ---- the reply

  fields : (drawn : List ℕ) (name : RequestName) (r : Request) → fields_after (bare s) (effect (bare s) drawn name r) ≡ fields_after s (effect s drawn name r)
  fields drawn Csnbkrc r = refl
  fields drawn Csnbkrl r = ap (label_fields (value_of r (codes "prefix"))) (all_labels s.labels)
  fields drawn CsnbmkpClear r = refl
  fields drawn CsnbmkpSet r = refl
  fields drawn Reencipher r = ap (λ (n : ℕ). let fs : List Field = Number (codes "changed") n ∷ [] in fs) (all_count Renew s.labels)
  fields drawn ReencipherAhead r = ap (λ (n : ℕ). let fs : List Field = Number (codes "changed") n ∷ [] in fs) (all_count Ahead s.labels)
  fields drawn ReencipherDrop r = ap (λ (n : ℕ). let fs : List Field = Number (codes "changed") n ∷ [] in fs) (all_count Drop s.labels)
  fields drawn Csnbktc r = fields_same s s.registers.coming (bare_all s.labels) refl drawn Csnbktc r refl (known (listed (operands_of Csnbktc r))) (λ is. refl)
  fields drawn name r = fields_same s s.registers.coming (bare_all s.labels) refl drawn name r refl (known (listed (operands_of name r))) tt

  pub bare_reply : (drawn : List ℕ) (r : Request) → (performed (bare s) drawn r).reply ≡ (performed s drawn r).reply
  bare_reply drawn r = replies_same s s.registers.coming (bare_all s.labels) refl drawn r (known (listed (operands r))) (verbs r.name r) (fields drawn r.name r)

  -- ---- the state after a request

  abbrev with_all : Masters → List (Option Role) → Entries → State
  with_all m roles es = record { registers = m; roles = roles; labels = es }

  shown : bare (bare s) ≡ bare s
  shown = ap (with_all s.registers s.roles) (all_twice s.labels)

  written_bare : (key : Denoted) (o : Option ℕ) → bare_all (written_in o key (bare_all s.labels)) ≡ bare_all (written_in o key s.labels)
  written_bare key None = all_twice s.labels
  written_bare key (Some n) =
      set_bare s.labels n (with_what key (entry_at (bare_all s.labels) n)) (with_what key (entry_at s.labels n))
      (ap without_unused (ap (with_what key) (at_cell s.labels n) ∙ bare_with key (entry_at s.labels n)))

  write_bare : (label : List ℕ) (one other : Denoted) → one ≡ other
      → bare_all (written_in (cell_with (bare s) label) one (bare_all s.labels)) ≡ bare_all (written_in (cell_with s label) other s.labels)
  write_bare label one other same =
      ap₂ (λ (o : Option ℕ) (key : Denoted). bare_all (written_in o key (bare_all s.labels))) (cell_same label) same
      ∙ written_bare other (cell_with s label)

  delivered_bare : (field : List ℕ) (to : Option (List ℕ)) (one other : Denoted) (fs gs : List Field) → one ≡ other
      → bare (state_after (bare s) (delivered_with (bare s) field to one fs)) ≡ bare (state_after s (delivered_with s field to other gs))
  delivered_bare field None one other fs gs same = shown
  delivered_bare field (Some label) one other fs gs same = ap (with_all s.registers s.roles) (write_bare label one other same)

  deleted_bare : (o : Option ℕ) → bare_all (deleted_in o (bare_all s.labels)) ≡ bare_all (deleted_in o s.labels)
  deleted_bare None = all_twice s.labels
  deleted_bare (Some n) = set_bare s.labels n None None refl

  abbrev to_label : Request → Option (List ℕ)
  to_label r = label_named (value_of r (codes "to"))

  after : (drawn : List ℕ) (name : RequestName) (r : Request) → bare (state_after (bare s) (effect (bare s) drawn name r)) ≡ bare (state_after s (effect s drawn name r))
  after drawn Csnbcki r = delivered_bare _ (to_label r) _ _ _ _ refl
  after drawn CsnbkgnOp r = delivered_bare _ (to_label r) _ _ _ _ refl
  after drawn CsnbkgnPair r = delivered_bare _ (to_label r) _ _ _ _ refl
  after drawn Csnbkim r =
      delivered_bare _ (to_label r) _ _ _ _ (ap (λ (key : ClearKey). as_current (imported key (bytes_in r (codes "token")))) (field_is r (codes "transport")))
  after drawn Csnbpex r = delivered_bare _ (to_label r) _ _ _ _ (ap (λ (key : ClearKey). as_current (closed_key key)) (field_is r (codes "key")))
  after drawn CsnbkpiFirst r = delivered_bare _ (to_label r) _ _ _ _ refl
  after drawn CsnbkpiMiddle r =
      delivered_bare _ (to_label r) _ _ _ _
      (ap (λ (key : ClearKey). as_current (combined_key (is_last_part (value_of r (codes "rule"))) key (part_in r))) (field_is r (codes "key")))
  after drawn Csnbkrc r =
      ap (with_all s.registers s.roles)
      (ap (λ (d : List (Option (List ℕ))). bare_all (set (bare_all s.labels) (free_cell d) (Some (null_entry (value_of r (codes "label")))))) (all_labels s.labels)
      ∙ set_bare s.labels (free_cell (directory s.labels)) _ _ refl)
  after drawn Csnbkrw r = ap (with_all s.registers s.roles) (write_bare (value_of r (codes "label")) _ _ refl)
  after drawn Csnbkrd r =
      ap (with_all s.registers s.roles)
      (ap (λ (o : Option ℕ). bare_all (deleted_in o (bare_all s.labels))) (cell_same (value_of r (codes "label"))) ∙ deleted_bare (cell_with s (value_of r (codes "label"))))
  after drawn CsnbmkpPart r = ap (with_all (after_action (part_action (value_of r (codes "action"))) (bytes_in r (codes "part")) s.registers) s.roles) (all_twice s.labels)
  after drawn CsnbmkpClear r = ap (with_all (after_action Clear [] s.registers) s.roles) (all_twice s.labels)
  after drawn CsnbmkpSet r = ap (with_all (after_action Set [] s.registers) s.roles) (all_aged (keys_of s.registers) s.labels)
  after drawn CsuaaciDefine r = ap (with_all s.registers (after_define (value_of r (codes "name")) (points_in r) s.roles)) (all_twice s.labels)
  after drawn CsuaaciRemove r = ap (with_all s.registers (after_remove (value_of r (codes "name")) s.roles)) (all_twice s.labels)
  after drawn Reencipher r = ap (with_all s.registers s.roles) (all_further Renew s.labels 1024)
  after drawn ReencipherAhead r = ap (with_all s.registers s.roles) (all_further Ahead s.labels 1024)
  after drawn ReencipherDrop r = ap (with_all s.registers s.roles) (all_further Drop s.labels 1024)
  after drawn _ r = shown

  state_by : (drawn : List ℕ) (r : Request) (v : Option Refusal) → bare (or_act v (bare s) drawn r).state ≡ bare (or_act v s drawn r).state
  state_by drawn r (Some refusal) = shown
  state_by drawn r None = after drawn r.name r

  pub bare_state : (drawn : List ℕ) (r : Request) → bare (performed (bare s) drawn r).state ≡ bare (performed s drawn r).state
  unfolding performed
  bare_state drawn r =
      ap (λ (v : Option Refusal). bare (or_act v (bare s) drawn r).state) (bare_verdict drawn r) ∙ state_by drawn r (verdict s drawn r)

-- ---- two states

same_bare : (s t : State) → SameButUnused s t → bare s ≡ bare t
same_bare s t same =
    ap (λ (m : Masters). record { registers = m; roles = s.roles; labels = bare_all s.labels }) same.registers
    ∙ ap₂ (λ (roles : List (Option Role)) (es : Entries). record { registers = t.registers; roles = roles; labels = es }) same.roles same.labels

of_bare : (s t : State) → bare s ≡ bare t → SameButUnused s t
of_bare s t same = record {
  registers = ap (λ (u : State). u.registers) same;
  roles = ap (λ (u : State). u.roles) same;
  labels = ap (λ (u : State). u.labels) same;
}

pub same_verdict : (s t : State) (random : List ℕ) (r : Request) → SameButUnused s t → verdict s random r ≡ verdict t random r
same_verdict s t random r same =
    sym (bare_verdict s random r) ∙ (ap (λ (u : State). verdict u random r) (same_bare s t same) ∙ bare_verdict t random r)

pub same_taken : (s t : State) (random : List ℕ) (r : Request) → SameButUnused s t → taken_by s random r ≡ taken_by t random r
same_taken s t random r same =
    sym (bare_taken s random r) ∙ (ap (λ (u : State). taken_by u random r) (same_bare s t same) ∙ bare_taken t random r)

pub same_reply : (s t : State) (drawn : List ℕ) (r : Request) → SameButUnused s t → (performed s drawn r).reply ≡ (performed t drawn r).reply
same_reply s t drawn r same =
    sym (bare_reply s drawn r) ∙ (ap (λ (u : State). (performed u drawn r).reply) (same_bare s t same) ∙ bare_reply t drawn r)

pub same_state : (s t : State) (drawn : List ℕ) (r : Request) → SameButUnused s t → SameButUnused (performed s drawn r).state (performed t drawn r).state
same_state s t drawn r same =
    of_bare (performed s drawn r).state (performed t drawn r).state
    (sym (bare_state s drawn r) ∙ (ap (λ (u : State). bare (performed u drawn r).state) (same_bare s t same) ∙ bare_state t drawn r))

-- ---- lines

-- a line comes to the same from both
record AlikeAfter (s t : State) (random line : List ℕ) : Type 0 where
  reply : (line_outcome s random line).reply ≡ (line_outcome t random line).reply
  random_is : (line_outcome s random line).random ≡ (line_outcome t random line).random
  state : SameButUnused (line_outcome s random line).state (line_outcome t random line).state

module _ (s t : State) (same : SameButUnused s t) (random : List ℕ) where
  reply_by : (o : Option ℕ) (q : Option Request) → (outcome_by o s random q).reply ≡ (outcome_by o t random q).reply
  reply_by (Some rule) q = refl
  reply_by None None = refl
  reply_by None (Some r) =
      ap (λ (n : ℕ). (performed s (take n random) r).reply) (same_taken s t random r same) ∙ same_reply s t (take (taken_by t random r) random) r same

  random_by : (o : Option ℕ) (q : Option Request) → (outcome_by o s random q).random ≡ (outcome_by o t random q).random
  random_by (Some rule) q = refl
  random_by None None = refl
  random_by None (Some r) = ap (λ (n : ℕ). drop n random) (same_taken s t random r same)

  state_of : (o : Option ℕ) (q : Option Request) → SameButUnused (outcome_by o s random q).state (outcome_by o t random q).state
  state_of (Some rule) q = same
  state_of None None = same
  state_of None (Some r) =
      subst (λ (n : ℕ). SameButUnused (performed s (take (taken_by s random r) random) r).state (performed t (take n random) r).state) (same_taken s t random r same)
      (same_state s t (take (taken_by s random r) random) r same)

  line_alike : (line : List ℕ) → AlikeAfter s t random line
  unfolding line_outcome
  line_alike line = record {
    reply = reply_by (first_failing (line_checks line (request_of line))) (request_of line);
    random_is = random_by (first_failing (line_checks line (request_of line))) (request_of line);
    state = state_of (first_failing (line_checks line (request_of line))) (request_of line);
  }

pub same_replies : (s t : State) (random : List ℕ) (lines : List (List ℕ)) → SameButUnused s t → replies s random lines ≡ replies t random lines
same_replies s t random [] same = refl
same_replies s t random (line ∷ lines) same =
    let one = line_alike s t same random line in
    ap₂ (λ (first later : List ℕ). first ++ later) (ap spelled one.reply)
    (ap (λ (left : List ℕ). replies (line_outcome s random line).state left lines) one.random_is
    ∙ same_replies (line_outcome s random line).state (line_outcome t random line).state (line_outcome t random line).random lines one.state)

pub same_states : (s t : State) (random : List ℕ) (lines : List (List ℕ)) → SameButUnused s t
    → SameButUnused (state_after_lines s random lines) (state_after_lines t random lines)
same_states s t random [] same = same
same_states s t random (line ∷ lines) same =
    let one = line_alike s t same random line in
    subst (λ (left : List ℕ). SameButUnused (state_after_lines (line_outcome s random line).state left lines) (state_after_lines (line_outcome t random line).state (line_outcome t random line).random lines))
    (sym one.random_is)
    (same_states (line_outcome s random line).state (line_outcome t random line).state (line_outcome t random line).random lines one.state)

pub same_random : (s t : State) (random : List ℕ) (lines : List (List ℕ)) → SameButUnused s t → random_after s random lines ≡ random_after t random lines
same_random s t random [] same = refl
same_random s t random (line ∷ lines) same =
    let one = line_alike s t same random line in
    ap (λ (left : List ℕ). random_after (line_outcome s random line).state left lines) one.random_is
    ∙ same_random (line_outcome s random line).state (line_outcome t random line).state (line_outcome t random line).random lines one.state
