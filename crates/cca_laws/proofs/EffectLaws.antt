-- What each effect of a permitted request may do to labels.
use Rattle.std.proofs.Common.{◌≡◌, ◌≢◌, ◌⊎◌, inl, inr, ℕ, Bool, true, false, cond, not, List, Option, None, Some, refl, ap, codes}
use Rattle.std.specs.Prelude.{⊤, is_some}
use Rattle.cca_roles.proofs.DirectoryLaws.{none_of}
use Rattle.record_bodies.specs.Entries.{Entry}
use Rattle.record_bodies.specs.Labels.{IsLabel, is_label}
use Rattle.record_bodies.specs.Turning.{aged}
use Rattle.key_tokens.specs.Denotes.{Denoted}
use Rattle.line_service.specs.Replies.{Field}
use Rattle.verb_script.specs.Grammar.{Request, value_of}
use Rattle.verb_script.specs.declared.rows.RequestName.{RequestName}
use Rattle.verb_script.specs.declared.rows.RequestName.TheVariants.{Csnbcki, CsnbkgnOp, CsnbkgnPair, Csnbkim, Csnbpex, CsnbkpiFirst, CsnbkpiMiddle, Csnbkrc, Csnbkrw, Csnbkrd, CsnbmkpPart, CsnbmkpClear, CsnbmkpSet}
use Rattle.verb_script.specs.Named.{label_named}
use Rattle.cca_machine.specs.Act.{Effect, Show, Become, DefineRole, RemoveRole, Create, Write, Delete, ChangeLabels, delivered_with, effect}
use Rattle.verb_rules.specs.Keys.{keys_of}
use Rattle.cca_machine.specs.Keys.{cell_with}
use Rattle.cca_machine.specs.Operands.{Operand, listed, operands_of}
use Rattle.cca_machine.specs.State.{State}
use Rattle.cca_machine.specs.Verdict.{first_refusal, operand_questions, verb_questions, verdict}
use Rattle.cca_laws.specs.Targets.{AreOther}
use Rattle.cca_laws.proofs.LineCases.{permitted, refused_none}

-- the label of a CSNBKRC, which is well formed and not held
pub record IsNewLabel (s : State) (name : RequestName) (r : Request) (label : List ℕ) : Type 0 where
  pub well : IsLabel label
  pub fresh : cell_with s label ≡ None
  pub verb : name ≡ Csnbkrc
  pub named : label ≡ value_of r (codes "label")

-- the labels stay, or are what SET makes of them
abbrev pub StayOrAge : State → List (Option Entry) → Type 0
StayOrAge s now = (now ≡ s.labels) ⊎ (now ≡ aged (keys_of s.registers) s.labels)

-- the label is one that an operand gives to be written or deleted
abbrev pub IsGiven : List ℕ → List Operand → Type 0
IsGiven label os = (other : List ℕ) → AreOther other os → label ≢ other

abbrev pub Fits : State → RequestName → Request → Effect → Type 0
Fits s name r (Show fields) = ⊤
Fits s name r (Become m labels) = StayOrAge s labels
Fits s name r (DefineRole role points) = ⊤
Fits s name r (RemoveRole role) = ⊤
Fits s name r (Create label) = IsNewLabel s name r label
Fits s name r (Write label key fields) = IsGiven label (listed (operands_of name r))
Fits s name r (Delete label) = IsGiven label (listed (operands_of name r))
Fits s name r (ChangeLabels a) = ⊤

-- ---- what passed

passed : (b : Bool) (rule : ℕ) → cond (not b) (Some rule) None ≡ None → b ≡ true
passed true rule is = refl
passed false rule is = cc

pub second_passed : (a b : Bool) (one two : ℕ) → cond a (Some one) (cond b (Some two) None) ≡ None → b ≡ false
second_passed true b one two is = cc
second_passed false true one two is = cc
second_passed false false one two is = refl

pub third_passed : (a b c : Bool) (one two three : ℕ) → cond a (Some one) (cond b (Some two) (cond c (Some three) None)) ≡ None → c ≡ false
third_passed true b c one two three is = cc
third_passed false b c one two three is = second_passed b c two three is

-- ---- each request

delivers : (s : State) (name : RequestName) (r : Request) (field : List ℕ) (to : Option (List ℕ)) (key : Denoted) (fields : List Field)
    → ((other : List ℕ) → AreOther other (listed (operands_of name r)) → to ≢ Some other) → Fits s name r (delivered_with s field to key fields)
delivers s name r field None key fields given = tt
delivers s name r field (Some label) key fields given = λ other spared same. given other spared (ap (λ x. Some x) same)

module _ (s : State) (drawn : List ℕ) where
  fits_named : (name : RequestName) (r : Request)
      → first_refusal (operand_questions s (listed (operands_of name r))) ≡ None → first_refusal (verb_questions s name r) ≡ None
      → Fits s name r (effect s drawn name r)
  fits_named Csnbcki r ops verb = delivers s Csnbcki r _ (label_named (value_of r (codes "to"))) _ _ (λ other spared. spared.0)
  fits_named CsnbkgnOp r ops verb = delivers s CsnbkgnOp r _ (label_named (value_of r (codes "to"))) _ _ (λ other spared. spared.0)
  fits_named CsnbkgnPair r ops verb = delivers s CsnbkgnPair r _ (label_named (value_of r (codes "to"))) _ _ (λ other spared. spared.1.0)
  fits_named Csnbkim r ops verb = delivers s Csnbkim r _ (label_named (value_of r (codes "to"))) _ _ (λ other spared. spared.1.1.0)
  fits_named Csnbpex r ops verb = delivers s Csnbpex r _ (label_named (value_of r (codes "to"))) _ _ (λ other spared. spared.1.0)
  fits_named CsnbkpiFirst r ops verb = delivers s CsnbkpiFirst r _ (label_named (value_of r (codes "to"))) _ _ (λ other spared. spared.0)
  fits_named CsnbkpiMiddle r ops verb = delivers s CsnbkpiMiddle r _ (label_named (value_of r (codes "to"))) _ _ (λ other spared. spared.1.0)
  fits_named Csnbkrc r ops verb = record {
    well = passed (is_label (value_of r (codes "label"))) 6 (refused_none _ _ _ ops).0;
    fresh = none_of (cell_with s (value_of r (codes "label"))) (second_passed _ (is_some (cell_with s (value_of r (codes "label")))) 28 29 (refused_none _ _ _ verb).0);
    verb = refl;
    named = refl;
  }
  fits_named Csnbkrw r ops verb = λ other spared same. spared.0 (ap (λ x. Some x) same)
  fits_named Csnbkrd r ops verb = λ other spared same. spared.0 (ap (λ x. Some x) same)
  fits_named CsnbmkpPart r ops verb = inl refl
  fits_named CsnbmkpClear r ops verb = inl refl
  fits_named CsnbmkpSet r ops verb = inr refl
  fits_named _ r ops verb = tt

  -- the effect of a permitted request
  pub effect_fits : (r : Request) → verdict s drawn r ≡ None → Fits s r.name r (effect s drawn r.name r)
  effect_fits r permits = let p = permitted s drawn r permits in fits_named r.name r p.operands p.verb
