-- Each reply is one line.
use Rattle.std.proofs.Common.{◌≡◌, ℕ, ◌<◌, zero, suc, Bool, true, false, cond, List, [], ◌∷◌, ◌++◌, length, map, set, take, drop, Option, None, Some, ⊎_elim, refl, sym, ap, subst, ◌∙◌, codes, T, ap₂, append_assoc, arith}
use Rattle.std.specs.Prelude.{⊤, ◌&&◌, nat_le, filter, nat_eq, if◌then◌else◌}
use Rattle.std.specs.List.{list_all, range_with_len, starts_with}
use Rattle.device_cells.specs.Cells.{body}
use Rattle.cca_roles.specs.Characters.{is_label_byte}
use Rattle.cca_vectors.specs.Checks.{first_failing}
use Rattle.cca_vectors.specs.Classes.{class_of}
use Rattle.cca_vectors.specs.declared.key_class.Class.{Class}
use Rattle.cca_vectors.specs.declared.key_class.Class.TheVariants.{Data, Cipher, Mac, Exporter, Importer, Other}
use Rattle.record_bodies.specs.LabelChanges.{null_entry, with_what}
use Rattle.record_bodies.specs.Directory.{held_count}
use Rattle.record_bodies.specs.Entries.{Entry, directory, entry_label}
use Rattle.record_bodies.specs.Labels.{IsLabel, is_label, starts_label}
use Rattle.record_bodies.specs.RecordBody.{ReadsEntry}
use Rattle.record_bodies.specs.StoreStands.{entry_at}
use Rattle.record_bodies.specs.Turning.{aged, aged_entry}
use Rattle.key_tokens.specs.Denotes.{Denoted, MasterKeys}
use Rattle.key_tokens.specs.Fields.{token_of}
use Rattle.key_tokens.specs.declared.key_token.Kind.{Kind}
use Rattle.key_tokens.specs.declared.key_token.Kind.TheVariants.{Internal, External}
use Rattle.key_transport.specs.declared.changing.Target.{Target}
use Rattle.key_transport.specs.declared.changing.Target.TheVariants.{Current, New}
use Rattle.master_registers.specs.Masters.{NewRegister, Empty, Partial, Full}
use Rattle.record_bodies.specs.Further.{further}
use Rattle.record_bodies.specs.declared.actions.StoreAction.{StoreAction}
use Rattle.line_service.specs.Lines.{lines, newline}
use Rattle.line_service.proofs.CutLines.{lines-nil, lines-whole}
use Rattle.line_service.specs.Replies.{Field, spelled}
use Rattle.verb_rules.specs.Keys.{keys_of}
use Rattle.verb_script.specs.Grammar.{Request, value_of}
use Rattle.verb_script.specs.declared.rows.RequestName.{RequestName}
use Rattle.verb_script.specs.declared.rows.RequestName.TheVariants.{Csnbktp, Csnbmvr, Csnbcki, CsnbkgnOp, CsnbkgnPair, Csnbkim, Csnbpex, CsnbkpiFirst, CsnbkpiMiddle, CsnbmvrLast, Csnbktc, Csnbkrl}
use Rattle.verb_script.specs.Named.{is_label_text, is_named, is_visible, label_named}
use Rattle.verb_script.specs.Requests.{request_of}
use Rattle.mac_verbs.specs.Codes.{is_code}
use Rattle.std.specs.Str.{bytes_eq}
use Rattle.std.proofs.lemmas.Option.{same_Some}
use Rattle.text_segments.specs.Segments.{last_code}
use Rattle.cca_machine.specs.Act.{Effect, Show, Become, DefineRole, RemoveRole, Create, Write, Delete, ChangeLabels, class_name, deleted_in, delivered_with, effect, fields_after, kind_name, new_name, or_act, performed, state_after as after_effect, written_in, yes_or_no}
use Rattle.cca_machine.specs.Choices.{mac_rule_named, target_named}
use Rattle.cca_machine.specs.Keys.{any_old, cell_with, key_of_request, warning}
use Rattle.cca_machine.specs.Lines.{line_checks, line_outcome, outcome_by, taken_by}
use Rattle.cca_machine.specs.Listing.{ascending, beginning, first_label, has_rank, label_fields, nth_label, with_commas}
use Rattle.cca_machine.specs.Operands.{listed, operands, operands_of}
use Rattle.cca_machine.specs.Session.{replies}
use Rattle.cca_machine.specs.State.{State, IsStoreOf}
use Rattle.cca_machine.specs.Verdict.{Questions, Refusal, bytes_in, chain_in, change_questions, code_rule, first_refusal, general_checks, operand_questions, operands_verdict, or_refused, or_then, verb_questions, verb_verdict, verdict}
use Rattle.cca_laws.specs.ReplyLines.{IsOneLine}
use Rattle.cca_laws.proofs.CleanLaws.{append_clean, are_clean, are_clean-append, both, byte_clean, first_of_both, is_clean, is_clean_byte, is_clean_reply, one_line, second_of_both, truth}
use Rattle.cca_laws.proofs.EffectLaws.{Fits, effect_fits}
use Rattle.cca_laws.proofs.LabelLists.{changed_label, label_kept}
use Rattle.cca_laws.proofs.LineCases.{by_line, of_verdict}

-- ---- labels

pub all_clean : (p : ℕ → Bool) → ((c : ℕ) → T (p c) → T (is_clean_byte c)) → (xs : List ℕ) → T (list_all p xs) → T (is_clean xs)
all_clean p each [] holds = tt
all_clean p each (x ∷ xs) holds =
    both (is_clean_byte x) (is_clean xs) (each x (first_of_both (p x) (list_all p xs) holds)) (all_clean p each xs (second_of_both (p x) (list_all p xs) holds))

visible_clean : (c : ℕ) → T (is_visible c) → T (is_clean_byte c)
visible_clean c visible = byte_clean c (λ is. subst (λ x. T (is_visible x)) is visible)

label_byte_clean : (c : ℕ) → T (is_label_byte c) → T (is_clean_byte c)
label_byte_clean c may = byte_clean c (λ is. subst (λ x. T (is_label_byte x)) is may)

pub label_clean : (label : List ℕ) → IsLabel label → T (is_clean label)
unfolding is_label
label_clean label is =
    all_clean is_label_byte label_byte_clean label
    (second_of_both (starts_label label && nat_le (length label) 64) (list_all is_label_byte label) (truth (is_label label) is))

named_clean : (text label : List ℕ) → label_named text ≡ Some label → T (is_clean label)
named_clean text label is = by_test (is_named text) refl is
  where
    behind : T (is_named text) → T (is_clean (drop 2 text))
    behind named = all_clean is_visible visible_clean (drop 2 text) (second_of_both _ (list_all is_visible (drop 2 text)) (second_of_both _ (is_label_text (drop 2 text)) named))

    by_test : (t : Bool) → is_named text ≡ t → (if t then Some (drop 2 text) else None) ≡ Some label → T (is_clean label)
    by_test true named same = subst (λ l. T (is_clean l)) (same_Some (drop 2 text) label same) (behind (truth (is_named text) named))
    by_test false named same = cc same

-- each label of the places is well formed
abbrev pub AreLabels : List (Option (List ℕ)) → Type 0
AreLabels [] = ⊤
AreLabels (None ∷ d) = AreLabels d
AreLabels (Some label ∷ d) = IsLabel label × AreLabels d

-- ---- they stay well formed

abbrev IsLabelOf : Option (List ℕ) → Type 0
IsLabelOf None = ⊤
IsLabelOf (Some label) = IsLabel label

with_one : (o : Option (List ℕ)) (d : List (Option (List ℕ))) → IsLabelOf o → AreLabels d → AreLabels (o ∷ d)
with_one None d is are = are
with_one (Some label) d is are = (is, are)

first_one : (o : Option (List ℕ)) (d : List (Option (List ℕ))) → AreLabels (o ∷ d) → IsLabelOf o
first_one None d are = tt
first_one (Some label) d are = are.0

other_ones : (o : Option (List ℕ)) (d : List (Option (List ℕ))) → AreLabels (o ∷ d) → AreLabels d
other_ones None d are = are
other_ones (Some label) d are = are.1

set_labels : (es : List (Option Entry)) (n : ℕ) (e : Option Entry) → (IsLabelOf (entry_label (entry_at es n)) → IsLabelOf (entry_label e)) → AreLabels (directory es)
    → AreLabels (directory (set es n e))
set_labels [] n e is are = are
set_labels (x ∷ xs) zero e is are =
    with_one (entry_label e) (directory xs) (is (first_one (entry_label x) (directory xs) are)) (other_ones (entry_label x) (directory xs) are)
set_labels (x ∷ xs) (suc n) e is are =
    with_one (entry_label x) (directory (set xs n e)) (first_one (entry_label x) (directory xs) are) (set_labels xs n e is (other_ones (entry_label x) (directory xs) are))

pub aged_label : (masters : MasterKeys) (e : Option Entry) → entry_label (aged_entry masters e) ≡ entry_label e
aged_label masters None = refl
aged_label masters (Some e) = refl

aged_labels : (masters : MasterKeys) (es : List (Option Entry)) → directory (aged masters es) ≡ directory es
aged_labels masters [] = refl
aged_labels masters (e ∷ es) = ap₂ (λ (l : Option (List ℕ)) (d : List (Option (List ℕ))). l ∷ d) (aged_label masters e) (aged_labels masters es)

further_labels : (a : StoreAction) (es : List (Option Entry)) (n : ℕ) → directory (further a es n) ≡ directory es
further_labels a [] n = refl
further_labels a (e ∷ es) zero = refl
further_labels a (e ∷ es) (suc n) = ap₂ (λ (l : Option (List ℕ)) (d : List (Option (List ℕ))). l ∷ d) (changed_label a e) (further_labels a es n)

written_labels : (es : List (Option Entry)) (o : Option ℕ) (key : Denoted) → AreLabels (directory es) → AreLabels (directory (written_in o key es))
written_labels es None key are = are
written_labels es (Some n) key are =
    set_labels es n (with_what key (entry_at es n)) (λ (is : IsLabelOf (entry_label (entry_at es n))). subst IsLabelOf (sym (label_kept key (entry_at es n))) is) are

deleted_labels : (es : List (Option Entry)) (o : Option ℕ) → AreLabels (directory es) → AreLabels (directory (deleted_in o es))
deleted_labels es None are = are
deleted_labels es (Some n) are = set_labels es n None (λ is. tt) are

abbrev pub HasLabels : State → Type 0
HasLabels s = AreLabels (directory s.labels)

labels_stay : (s : State) (name : RequestName) (r : Request) (e : Effect) → HasLabels s → Fits s name r e → HasLabels (after_effect s e)
labels_stay s name r (Become m labels) are fits = ⊎_elim
    (λ (same : labels ≡ s.labels). subst (λ (ls : List (Option Entry)). AreLabels (directory ls)) (sym same) are)
    (λ (age : labels ≡ aged (keys_of s.registers) s.labels). subst AreLabels (sym (ap (λ (ls : List (Option Entry)). directory ls) age ∙ aged_labels (keys_of s.registers) s.labels)) are)
    fits
labels_stay s name r (Create label) are fits = set_labels s.labels _ (Some (null_entry label)) (λ is. fits.well) are
labels_stay s name r (Write label key fields) are fits = written_labels s.labels (cell_with s label) key are
labels_stay s name r (Delete label) are fits = deleted_labels s.labels (cell_with s label) are
labels_stay s name r (ChangeLabels a) are fits = subst AreLabels (sym (further_labels a s.labels 1024)) are
labels_stay s name r (Show fields) are fits = are
labels_stay s name r (DefineRole role points) are fits = are
labels_stay s name r (RemoveRole role) are fits = are

line_stays : (s : State) (random line : List ℕ) → HasLabels s → HasLabels (line_outcome s random line).state
line_stays s random line are =
    by_line HasLabels s are random line (λ drawn r is permits. labels_stay s r.name r (effect s drawn r.name r) are (effect_fits s drawn r permits))

-- a store has well formed labels
entry_fits : (masters : MasterKeys) (bytes : List ℕ) (e : Option Entry) → ReadsEntry masters bytes e → IsLabelOf (entry_label e)
entry_fits masters bytes None reads = tt
entry_fits masters bytes (Some e) reads = reads.0

all_labels : (es : List (Option Entry)) → ((n : ℕ) → n < length es → IsLabelOf (entry_label (entry_at es n))) → AreLabels (directory es)
all_labels [] each = tt
all_labels (e ∷ es) each = with_one (entry_label e) (directory es) (each 0 (omega arith)) (all_labels es (λ n within. each (suc n) (omega (arith, within))))

pub store_labels : (s : State) (image : List ℕ) → IsStoreOf s image → HasLabels s
store_labels s image stands =
    all_labels s.labels (λ n within. entry_fits (keys_of s.registers) (body image n) (entry_at s.labels n) (stands.reads n (subst (λ k. n < k) stands.size within)))

-- ---- the list of labels

commas_clean : (ls : List (List ℕ)) → T (list_all is_clean ls) → T (is_clean (with_commas ls))
commas_clean [] clean = tt
commas_clean (l ∷ []) clean = first_of_both (is_clean l) true clean
commas_clean (l ∷ next ∷ ls) clean =
    append_clean l (codes "," ++ with_commas (next ∷ ls)) (first_of_both (is_clean l) (list_all is_clean (next ∷ ls)) clean)
    (append_clean (codes ",") (with_commas (next ∷ ls)) tt (commas_clean (next ∷ ls) (second_of_both (is_clean l) (list_all is_clean (next ∷ ls)) clean)))

filter_clean : (p : List ℕ → Bool) (ls : List (List ℕ)) → T (list_all is_clean ls) → T (list_all is_clean (filter p ls))
filter_clean p [] clean = tt
filter_clean p (l ∷ ls) clean = by_test (p l) (first_of_both (is_clean l) (list_all is_clean ls) clean) (filter_clean p ls (second_of_both (is_clean l) (list_all is_clean ls) clean))
  where
    by_test : (t : Bool) → T (is_clean l) → T (list_all is_clean (filter p ls)) → T (list_all is_clean (cond t (l ∷ filter p ls) (filter p ls)))
    by_test true first rest = both (is_clean l) (list_all is_clean (filter p ls)) first rest
    by_test false first rest = rest

map_clean : (f : ℕ → List ℕ) → ((n : ℕ) → T (is_clean (f n))) → (ns : List ℕ) → T (list_all is_clean (map f ns))
map_clean f each [] = tt
map_clean f each (n ∷ ns) = both (is_clean (f n)) (list_all is_clean (map f ns)) (each n) (map_clean f each ns)

first_clean : (test : Option (List ℕ) → Bool) (d : List (Option (List ℕ))) → AreLabels d → T (is_clean (first_label (filter test d)))
first_clean test [] are = tt
first_clean test (None ∷ d) are = by_test (test None) (first_clean test d are)
  where
    by_test : (t : Bool) → T (is_clean (first_label (filter test d))) → T (is_clean (first_label (cond t (None ∷ filter test d) (filter test d))))
    by_test true later = later
    by_test false later = later
first_clean test (Some l ∷ d) are = by_test (test (Some l)) (first_clean test d are.1)
  where
    by_test : (t : Bool) → T (is_clean (first_label (filter test d))) → T (is_clean (first_label (cond t (Some l ∷ filter test d) (filter test d))))
    by_test true later = label_clean l are.0
    by_test false later = later

pub ascending_clean : (d : List (Option (List ℕ))) → AreLabels d → T (list_all is_clean (ascending d))
ascending_clean d are = map_clean (nth_label d) (λ n. first_clean (has_rank n d) d are) (range_with_len 0 (held_count d))

listing_clean : (prefix : List ℕ) (d : List (Option (List ℕ))) → AreLabels d → T (are_clean (label_fields prefix d))
unfolding label_fields
listing_clean prefix d are =
    both (is_clean (with_commas (beginning prefix (ascending d)))) true
    (commas_clean (beginning prefix (ascending d))
    (filter_clean (λ label. starts_with nat_eq label prefix) (ascending d) (ascending_clean d are))) tt

-- ---- the fields of each effect

abbrev IsCleanEffect : Effect → Type 0
IsCleanEffect (Show fields) = T (are_clean fields)
IsCleanEffect (Write label key fields) = T (are_clean fields)
IsCleanEffect _ = ⊤

delivered_clean : (s : State) (field : List ℕ) (to : Option (List ℕ)) (key : Denoted) (fields : List Field) → T (is_clean field)
    → ((label : List ℕ) → to ≡ Some label → T (is_clean label)) → T (are_clean fields) → IsCleanEffect (delivered_with s field to key fields)
delivered_clean s field None key fields name label more = both (is_clean field) (are_clean fields) name more
delivered_clean s field (Some l) key fields name label more = both (is_clean l) (are_clean fields) (label l refl) more

answer_clean : (b : Bool) → T (is_clean (yes_or_no b))
answer_clean true = tt
answer_clean false = tt

kind_clean : (k : Kind) → T (is_clean (kind_name k))
kind_clean Internal = tt
kind_clean External = tt

class_clean : (k : Class) → T (is_clean (class_name k))
class_clean Data = tt
class_clean Cipher = tt
class_clean Mac = tt
class_clean Exporter = tt
class_clean Importer = tt
class_clean Other = tt

named_by : (r : Request) (label : List ℕ) → label_named (value_of r (codes "to")) ≡ Some label → T (is_clean label)
named_by r label is = named_clean (value_of r (codes "to")) label is

fields_clean : (s : State) (drawn : List ℕ) → HasLabels s → (name : RequestName) (r : Request) → IsCleanEffect (effect s drawn name r)
fields_clean s drawn are Csnbktp r =
    both (is_clean (kind_name (token_of (bytes_in r (codes "token"))).kind)) _ (kind_clean (token_of (bytes_in r (codes "token"))).kind)
    (both (is_clean (class_name (class_of (token_of (bytes_in r (codes "token"))).vector))) _ (class_clean (class_of (token_of (bytes_in r (codes "token"))).vector)) tt)
fields_clean s drawn are Csnbmvr r =
    both _ true (answer_clean (is_code (mac_rule_named (value_of r (codes "rule"))) (key_of_request s r) (bytes_in r (codes "text")) (bytes_in r (codes "mac")))) tt
fields_clean s drawn are Csnbcki r = delivered_clean s (codes "token") (label_named (value_of r (codes "to"))) _ _ tt (named_by r) tt
fields_clean s drawn are CsnbkgnOp r = delivered_clean s (codes "token1") (label_named (value_of r (codes "to"))) _ _ tt (named_by r) tt
fields_clean s drawn are CsnbkgnPair r = delivered_clean s (codes "token1") (label_named (value_of r (codes "to"))) _ _ tt (named_by r) tt
fields_clean s drawn are Csnbkim r = delivered_clean s (codes "token") (label_named (value_of r (codes "to"))) _ _ tt (named_by r) tt
fields_clean s drawn are Csnbpex r = delivered_clean s (codes "token") (label_named (value_of r (codes "to"))) _ _ tt (named_by r) tt
fields_clean s drawn are CsnbkpiFirst r = delivered_clean s (codes "token") (label_named (value_of r (codes "to"))) _ _ tt (named_by r) tt
fields_clean s drawn are CsnbkpiMiddle r = delivered_clean s (codes "token") (label_named (value_of r (codes "to"))) _ _ tt (named_by r) tt
fields_clean s drawn are CsnbmvrLast r =
    both _ true
    (answer_clean (bytes_eq (bytes_in r (codes "mac"))
    (take (length (bytes_in r (codes "mac"))) (last_code (key_of_request s r) (code_rule r) (chain_in r) (bytes_in r (codes "text"))))))
    tt
fields_clean s drawn are Csnbkrl r = listing_clean (value_of r (codes "prefix")) (directory s.labels) are
fields_clean s drawn are _ r = tt

state_clean : (new : NewRegister) → T (is_clean (new_name new))
state_clean Empty = tt
state_clean (Partial bytes) = tt
state_clean (Full bytes) = tt

after_clean : (s : State) (e : Effect) → IsCleanEffect e → T (are_clean (fields_after s e))
after_clean s (Become m labels) clean = both (is_clean (new_name m.coming)) true (state_clean m.coming) tt
after_clean s (Show fields) clean = clean
after_clean s (Write label key fields) clean = clean
after_clean s _ clean = tt

warning_clean : (b : Bool) → T (are_clean (warning b))
warning_clean true = tt
warning_clean false = tt

-- ---- the operand of a refusal

abbrev IsCleanRefusal : Option Refusal → Type 0
IsCleanRefusal None = ⊤
IsCleanRefusal (Some r) = T (is_clean r.operand)

abbrev are_named : List Questions → Bool
are_named qs = list_all (λ (q : Questions). is_clean q.operand) qs

refused_clean : (o : Option ℕ) (operand : List ℕ) (others : Option Refusal) → T (is_clean operand) → IsCleanRefusal others → IsCleanRefusal (or_refused o operand others)
refused_clean None operand others name more = more
refused_clean (Some rule) operand others name more = name

questions_clean : (qs : List Questions) → T (are_named qs) → IsCleanRefusal (first_refusal qs)
questions_clean [] clean = tt
questions_clean (q ∷ qs) clean =
    refused_clean (first_failing q.checks) q.operand (first_refusal qs) (first_of_both (is_clean q.operand) (are_named qs) clean)
    (questions_clean qs (second_of_both (is_clean q.operand) (are_named qs) clean))

operand_clean : (s : State) (name : RequestName) (r : Request) → T (are_named (operand_questions s (listed (operands_of name r))))
operand_clean s Csnbktp r = tt
operand_clean s _ r = tt

change_clean : (s : State) (t : Target) → T (are_named (change_questions s t))
change_clean s Current = tt
change_clean s New = tt

verb_clean : (s : State) (name : RequestName) (r : Request) → T (are_named (verb_questions s name r))
verb_clean s Csnbktc r = change_clean s (target_named (value_of r (codes "rule")))
verb_clean s _ r = tt

then_clean : (a b : Option Refusal) → IsCleanRefusal a → IsCleanRefusal b → IsCleanRefusal (or_then a b)
then_clean None b first second = second
then_clean (Some r) b first second = first

verdict_clean : (s : State) (random : List ℕ) (r : Request) → IsCleanRefusal (verdict s random r)
verdict_clean s random r =
    of_verdict IsCleanRefusal tt s random r
    (refused_clean (first_failing (general_checks s r)) (codes "-") (or_then (operands_verdict s r) (verb_verdict s r)) tt
    (then_clean (operands_verdict s r) (verb_verdict s r)
    (questions_clean (operand_questions s (listed (operands r))) (operand_clean s r.name r))
    (questions_clean (verb_questions s r.name r) (verb_clean s r.name r))))

-- ---- each reply

module _ (s : State) (are : HasLabels s) where
  by_verdict : (drawn : List ℕ) (r : Request) (v : Option Refusal) → IsCleanRefusal v → T (is_clean_reply (or_act v s drawn r).reply)
  by_verdict drawn r (Some refusal) clean = clean
  by_verdict drawn r None clean =
      are_clean-append (fields_after s (effect s drawn r.name r)) (warning (any_old s (listed (operands r))))
      (after_clean s (effect s drawn r.name r) (fields_clean s drawn are r.name r)) (warning_clean (any_old s (listed (operands r))))

  by_checks : (random : List ℕ) (o : Option ℕ) (q : Option Request) → T (is_clean_reply (outcome_by o s random q).reply)
  unfolding performed
  by_checks random (Some rule) q = tt
  by_checks random None None = tt
  by_checks random None (Some r) =
      let drawn : List ℕ = take (taken_by s random r) random in by_verdict drawn r (verdict s drawn r) (verdict_clean s drawn r)

  reply_clean : (random line : List ℕ) → IsOneLine (spelled (line_outcome s random line).reply)
  unfolding line_outcome
  reply_clean random line =
      one_line (line_outcome s random line).reply (by_checks random (first_failing (line_checks line (request_of line))) (request_of line))

pub one_reply : (s : State) (image random line : List ℕ) → IsStoreOf s image → IsOneLine (spelled (line_outcome s random line).reply)
one_reply s image random line stands = reply_clean s (store_labels s image stands) random line

-- ---- all replies

one_more : (bytes rest : List ℕ) → IsOneLine bytes → length (lines (bytes ++ rest)) ≡ suc (length (lines rest))
one_more bytes rest is =
    ap (λ bs. length (lines bs)) (ap (λ bs. bs ++ rest) is.whole ∙ append_assoc is.text (newline ∷ []) rest)
    ∙ ap length (lines-whole is.text rest is.clean)

pairs : (s : State) (random : List ℕ) (ls : List (List ℕ)) → HasLabels s → length (lines (replies s random ls)) ≡ length ls
pairs s random [] are = ap length lines-nil
pairs s random (line ∷ ls) are =
    one_more (spelled (line_outcome s random line).reply) (replies (line_outcome s random line).state (line_outcome s random line).random ls) (reply_clean s are random line)
    ∙ ap suc (pairs (line_outcome s random line).state (line_outcome s random line).random ls (line_stays s random line are))

pub replies_pair : (s : State) (image random : List ℕ) (ls : List (List ℕ)) → IsStoreOf s image → length (lines (replies s random ls)) ≡ length ls
replies_pair s image random ls stands = pairs s random ls (store_labels s image stands)
