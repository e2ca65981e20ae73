-- Which access control points the replies need that give keys out and work on texts.
use Rattle.std.proofs.Common.{◌≡◌, ◌≢◌, ℕ, Bool, true, false, List, [], ◌∷◌, ◌++◌, take, Option, None, Some, refl, sym, ap, subst, ◌∙◌, codes, bit_or, ◌||◌}
use Rattle.std.specs.Str.{bytes_eq}
use Rattle.std.proofs.lemmas.Option.{same_Some}
use Rattle.cca_vectors.specs.Checks.{first_failing}
use Rattle.key_tokens.specs.Denotes.{Denoted}
use Rattle.key_transport.specs.declared.changing.Target.{Target}
use Rattle.key_transport.specs.declared.changing.Target.TheVariants.{Current, New}
use Rattle.line_service.specs.Replies.{Field, Hex, Number, Refused, Reply, Text}
use Rattle.verb_script.specs.Grammar.{Request, value_of}
use Rattle.verb_script.specs.declared.rows.RequestName.{RequestName}
use Rattle.verb_script.specs.declared.rows.RequestName.TheVariants.{Csnbenc, CsnbencFirst, CsnbencMiddle, CsnbencLast, Csnbdec, CsnbdecFirst, CsnbdecMiddle, CsnbdecLast, Csnbmgn, CsnbmgnFirst, CsnbmgnMiddle, CsnbmgnLast, Csnbmvr, CsnbmvrFirst, CsnbmvrMiddle, CsnbmvrLast, Csnbkyt, Csnbcki, CsnbkgnOp, CsnbkgnPair, CsnbkgnOut, Csnbkim, Csnbkex, Csnbpex, CsnbkpiFirst, CsnbkpiMiddle, Csnbktr, Csnbktc, Csnbkrr, Csnbkrl}
use Rattle.verb_script.specs.Named.{label_named}
use Rattle.verb_script.specs.Requests.{request_of}
use Rattle.cca_machine.specs.Act.{Effect, delivered_with, effect, effected, fields_after, or_act, performed}
use Rattle.cca_machine.specs.Choices.{target_named}
use Rattle.cca_machine.specs.Keys.{any_old, warning}
use Rattle.cca_machine.specs.Lines.{line_checks, line_outcome, outcome_by, taken_by}
use Rattle.cca_machine.specs.Listing.{label_fields}
use Rattle.cca_machine.specs.Operands.{listed, operands}
use Rattle.cca_machine.specs.Points.{point}
use Rattle.cca_machine.specs.State.{State}
use Rattle.cca_machine.specs.Verdict.{Refusal, change_points, needed_points, points_for, verdict}
use Rattle.cca_laws.specs.EachLine.{EachRequest}
use Rattle.cca_laws.specs.EachReply.{EachAnswer, EachReply}
use Rattle.cca_laws.specs.Exports.{IsRefused, Lacks, ShowsNoToken, chain_points, export_points, has_field, text_points, token_points, verb_point}
use Rattle.cca_laws.specs.Points.{HoldsNone}
use Rattle.cca_laws.specs.Uses.{ShowsNoExternal, gives_external}
use Rattle.cca_laws.proofs.PointLaws.{Needs, lacks_them, never}
use Rattle.cca_laws.proofs.TokenFields.{EffectShows, each-append, fields_have, warning_has}
use Rattle.cca_laws.proofs.UseLaws.{effected_internal}

-- ---- the replies to lines

module _ (P : Request → Reply → Type 0) (refusals : (r : Request) (rule : ℕ) (operand : List ℕ) → P r (Refused rule operand))
    (Q : State → Request → Type 0)
    (step : (s : State) (drawn : List ℕ) (r : Request) → Q s r → verdict s drawn r ≡ None → P r (effected s r (effect s drawn r.name r)).reply) where
  by_verdict : (s : State) (drawn : List ℕ) (r : Request) → Q s r → (v : Option Refusal) → verdict s drawn r ≡ v → P r (or_act v s drawn r).reply
  by_verdict s drawn r has (Some refusal) is = refusals r refusal.rule refusal.operand
  by_verdict s drawn r has None is = step s drawn r has is

  of_request : (s : State) (drawn : List ℕ) (r : Request) → Q s r → P r (performed s drawn r).reply
  unfolding performed
  of_request s drawn r has = by_verdict s drawn r has (verdict s drawn r) refl

  answer : (s : State) (random line : List ℕ) (r : Request) → request_of line ≡ Some r → Q s r → P r (line_outcome s random line).reply
  unfolding line_outcome
  answer s random line r is has = by_checks (first_failing (line_checks line (request_of line))) (request_of line) is
    where
      by_checks : (o : Option ℕ) (q : Option Request) → q ≡ Some r → P r (outcome_by o s random q).reply
      by_checks (Some rule) q same = refusals r rule (codes "-")
      by_checks None None same = cc same
      by_checks None (Some other) same =
          subst (λ (x : Request). P r (outcome_by None s random (Some x)).reply) (sym (same_Some other r same)) (of_request s (take (taken_by s random r) random) r has)

  each_answer : (s : State) (random : List ℕ) (lines : List (List ℕ)) → EachRequest Q s random lines → EachAnswer P s random lines
  each_answer s random [] each = tt
  each_answer s random (line ∷ lines) each = (
    λ r is. answer s random line r is (each.0 r is),
    each_answer (line_outcome s random line).state (line_outcome s random line).random lines each.1,
  )

module _ (P : Reply → Type 0) (refusals : (rule : ℕ) (operand : List ℕ) → P (Refused rule operand)) (Q : State → Request → Type 0)
    (step : (s : State) (drawn : List ℕ) (r : Request) → Q s r → verdict s drawn r ≡ None → P (effected s r (effect s drawn r.name r)).reply) where
  reply : (s : State) (random line : List ℕ) → ((r : Request) → request_of line ≡ Some r → Q s r) → P (line_outcome s random line).reply
  unfolding line_outcome
  reply s random line has = by_checks (first_failing (line_checks line (request_of line))) (request_of line) refl
    where
      by_checks : (o : Option ℕ) (q : Option Request) → request_of line ≡ q → P (outcome_by o s random q).reply
      by_checks (Some rule) q same = refusals rule (codes "-")
      by_checks None None same = refusals 1 (codes "-")
      by_checks None (Some r) same =
          of_request (λ _ given. P given) (λ _. refusals) Q step s (take (taken_by s random r) random) r (has r same)

  each_reply : (s : State) (random : List ℕ) (lines : List (List ℕ)) → EachRequest Q s random lines → EachReply P s random lines
  each_reply s random [] each = tt
  each_reply s random (line ∷ lines) each =
      (reply s random line each.0, each_reply (line_outcome s random line).state (line_outcome s random line).random lines each.1)

-- ---- points that are needed

-- a role without the points isn't permitted what needs one of them
refuses : (points : ℕ) (s : State) (drawn : List ℕ) (r : Request) → HoldsNone points s r → verdict s drawn r ≡ None → Needs (needed_points r.name r) points → ⊥
refuses points s drawn r none permits = never (needed_points r.name r) points (lacks_them points s drawn r none permits)

-- also where the key goes into a record
target_needs : (needed points : ℕ) → Needs (bit_or needed 0) points → Needs (bit_or needed (point (codes "KRW"))) points → (to : Option (List ℕ))
    → Needs (bit_or needed (points_for to)) points
target_needs needed points none some None = none
target_needs needed points none some (Some label) = some

-- ---- tokens

external_needs : (name : RequestName) (r : Request) → gives_external name ≡ true → Needs (needed_points name r) export_points
external_needs Csnbkex r gives = tt
external_needs Csnbktr r gives = tt
external_needs CsnbkgnPair r gives = target_needs (point (codes "KGN_PAIR")) export_points tt tt (label_named (value_of r (codes "to")))
external_needs CsnbkgnOut r gives = tt
external_needs _ r gives = cc gives

pub no_external : (s : State) (random : List ℕ) (lines : List (List ℕ)) → EachRequest (HoldsNone export_points) s random lines → EachReply ShowsNoExternal s random lines
no_external = each_reply ShowsNoExternal (λ rule operand. tt) (HoldsNone export_points) step
  where
    step : (s : State) (drawn : List ℕ) (r : Request) → HoldsNone export_points s r → verdict s drawn r ≡ None → ShowsNoExternal (effected s r (effect s drawn r.name r)).reply
    step s drawn r none permits = by_verb (gives_external r.name) refl
      where
        by_verb : (gives : Bool) → gives_external r.name ≡ gives → ShowsNoExternal (effected s r (effect s drawn r.name r)).reply
        by_verb true is = absurd (refuses export_points s drawn r none permits (external_needs r.name r is))
        by_verb false is = effected_internal s drawn r is

change_needs : (t : Target) → Needs (change_points t) token_points
change_needs Current = tt
change_needs New = tt

-- a verb that delivers a key needs its own point
delivery_needs : (needed : ℕ) (r : Request) → Needs (bit_or needed 0) token_points → Needs (bit_or needed (point (codes "KRW"))) token_points
    → Needs (bit_or needed (points_for (label_named (value_of r (codes "to"))))) token_points
delivery_needs needed r none some = target_needs needed token_points none some (label_named (value_of r (codes "to")))

shows_none : (s : State) (drawn : List ℕ) (verb : RequestName) (r : Request) → (Needs (needed_points verb r) token_points → ⊥) → EffectShows (λ _. ⊥) (effect s drawn verb r)
unfolding label_fields
shows_none s drawn Csnbcki r lacks = absurd (lacks (delivery_needs (point (codes "CKI")) r tt tt))
shows_none s drawn CsnbkgnOp r lacks = absurd (lacks (delivery_needs (point (codes "KGN_OP")) r tt tt))
shows_none s drawn CsnbkgnPair r lacks = absurd (lacks (delivery_needs (point (codes "KGN_PAIR")) r tt tt))
shows_none s drawn CsnbkgnOut r lacks = absurd (lacks tt)
shows_none s drawn Csnbkim r lacks = absurd (lacks (delivery_needs (point (codes "KIM")) r tt tt))
shows_none s drawn Csnbkex r lacks = absurd (lacks tt)
shows_none s drawn Csnbpex r lacks = absurd (lacks (delivery_needs (point (codes "PEX")) r tt tt))
shows_none s drawn Csnbktc r lacks = absurd (lacks (change_needs (target_named (value_of r (codes "rule")))))
shows_none s drawn CsnbkpiFirst r lacks = absurd (lacks (delivery_needs (point (codes "KPI_FIRST")) r tt tt))
shows_none s drawn CsnbkpiMiddle r lacks = absurd (lacks (delivery_needs (point (codes "KPI_COMBINE")) r tt tt))
shows_none s drawn Csnbktr r lacks = absurd (lacks tt)
shows_none s drawn Csnbkrr r lacks = absurd (lacks tt)
shows_none s drawn Csnbkrl r lacks = tt
shows_none s drawn _ r lacks = tt

pub no_token : (s : State) (random : List ℕ) (lines : List (List ℕ)) → EachRequest (HoldsNone token_points) s random lines → EachReply ShowsNoToken s random lines
no_token = each_reply ShowsNoToken (λ rule operand. tt) (HoldsNone token_points)
    (λ s drawn r none permits.
    each-append (λ _. ⊥) (fields_after s (effect s drawn r.name r)) (warning (any_old s (listed (operands r))))
    (fields_have (λ _. ⊥) s (effect s drawn r.name r) (shows_none s drawn r.name r (refuses token_points s drawn r none permits)))
    (warning_has (λ _. ⊥) (any_old s (listed (operands r)))))

-- ---- fields

-- a list of fields of which none has this name
or_false : (a b : Bool) → a ≡ false → b ≡ false → (a || b) ≡ false
or_false true b first second = cc first
or_false false b first second = second

module _ (name : List ℕ) where
  by_name : (t some : Bool) (fs gs : List Field) → (t || some) ≡ false → (some ≡ false → has_field name (fs ++ gs) ≡ false) → (t || has_field name (fs ++ gs)) ≡ false
  by_name true some fs gs is rest = is
  by_name false some fs gs is rest = rest is

  field-append : (fs gs : List Field) → has_field name fs ≡ false → has_field name gs ≡ false → has_field name (fs ++ gs) ≡ false
  field-append [] gs first second = second
  field-append (Hex other bytes ∷ fs) gs first second = by_name (bytes_eq other name) (has_field name fs) fs gs first (λ is. field-append fs gs is second)
  field-append (Text other bytes ∷ fs) gs first second = by_name (bytes_eq other name) (has_field name fs) fs gs first (λ is. field-append fs gs is second)
  field-append (Number other value ∷ fs) gs first second = by_name (bytes_eq other name) (has_field name fs) fs gs first (λ is. field-append fs gs is second)

  abbrev EffectLacks : State → Effect → Type 0
  EffectLacks s e = has_field name (fields_after s e) ≡ false

  delivered_lacks : (s : State) (field : List ℕ) (to : Option (List ℕ)) (key : Denoted) (fields : List Field) → bytes_eq field name ≡ false → bytes_eq (codes "stored") name ≡ false
      → has_field name fields ≡ false → EffectLacks s (delivered_with s field to key fields)
  delivered_lacks s field None key fields one stored rest = or_false (bytes_eq field name) (has_field name fields) one rest
  delivered_lacks s field (Some label) key fields one stored rest = or_false (bytes_eq (codes "stored") name) (has_field name fields) stored rest

  warning_lacks : (b : Bool) → bytes_eq (codes "warn") name ≡ false → has_field name (warning b) ≡ false
  warning_lacks true warn = or_false (bytes_eq (codes "warn") name) false warn refl
  warning_lacks false warn = refl

  -- over lines: by what each effect shows
  lacks_over : (points : ℕ) → bytes_eq (codes "warn") name ≡ false
      → ((s : State) (drawn : List ℕ) (verb : RequestName) (r : Request) → (Needs (needed_points verb r) points → ⊥) → EffectLacks s (effect s drawn verb r))
      → (s : State) (random : List ℕ) (lines : List (List ℕ)) → EachRequest (HoldsNone points) s random lines → EachReply (Lacks name) s random lines
  lacks_over points warn each =
      each_reply (Lacks name) (λ rule operand. tt) (HoldsNone points)
      (λ s drawn r none permits.
      field-append (fields_after s (effect s drawn r.name r)) (warning (any_old s (listed (operands r))))
      (each s drawn r.name r (refuses points s drawn r none permits)) (warning_lacks (any_old s (listed (operands r))) warn))

text_lacks : (s : State) (drawn : List ℕ) (verb : RequestName) (r : Request) → (Needs (needed_points verb r) text_points → ⊥) → EffectLacks (codes "text") s (effect s drawn verb r)
unfolding label_fields
text_lacks s drawn Csnbenc r lacks = absurd (lacks tt)
text_lacks s drawn CsnbencFirst r lacks = absurd (lacks tt)
text_lacks s drawn CsnbencMiddle r lacks = absurd (lacks tt)
text_lacks s drawn CsnbencLast r lacks = absurd (lacks tt)
text_lacks s drawn Csnbdec r lacks = absurd (lacks tt)
text_lacks s drawn CsnbdecFirst r lacks = absurd (lacks tt)
text_lacks s drawn CsnbdecMiddle r lacks = absurd (lacks tt)
text_lacks s drawn CsnbdecLast r lacks = absurd (lacks tt)
text_lacks s drawn Csnbcki r lacks = delivered_lacks (codes "text") s (codes "token") (label_named (value_of r (codes "to"))) _ [] refl refl refl
text_lacks s drawn CsnbkgnOp r lacks = delivered_lacks (codes "text") s (codes "token1") (label_named (value_of r (codes "to"))) _ [] refl refl refl
text_lacks s drawn Csnbkim r lacks = delivered_lacks (codes "text") s (codes "token") (label_named (value_of r (codes "to"))) _ [] refl refl refl
text_lacks s drawn Csnbpex r lacks = delivered_lacks (codes "text") s (codes "token") (label_named (value_of r (codes "to"))) _ [] refl refl refl
text_lacks s drawn CsnbkpiFirst r lacks = delivered_lacks (codes "text") s (codes "token") (label_named (value_of r (codes "to"))) _ [] refl refl refl
text_lacks s drawn CsnbkpiMiddle r lacks = delivered_lacks (codes "text") s (codes "token") (label_named (value_of r (codes "to"))) _ [] refl refl refl
text_lacks s drawn CsnbkgnPair r lacks = delivered_lacks (codes "text") s (codes "token1") (label_named (value_of r (codes "to"))) _ _ refl refl refl
text_lacks s drawn Csnbkrl r lacks = refl
text_lacks s drawn _ r lacks = refl

chain_lacks : (s : State) (drawn : List ℕ) (verb : RequestName) (r : Request) → (Needs (needed_points verb r) chain_points → ⊥) → EffectLacks (codes "chain") s (effect s drawn verb r)
unfolding label_fields
chain_lacks s drawn CsnbencFirst r lacks = absurd (lacks tt)
chain_lacks s drawn CsnbencMiddle r lacks = absurd (lacks tt)
chain_lacks s drawn CsnbdecFirst r lacks = absurd (lacks tt)
chain_lacks s drawn CsnbdecMiddle r lacks = absurd (lacks tt)
chain_lacks s drawn CsnbmgnFirst r lacks = absurd (lacks tt)
chain_lacks s drawn CsnbmgnMiddle r lacks = absurd (lacks tt)
chain_lacks s drawn CsnbmvrFirst r lacks = absurd (lacks tt)
chain_lacks s drawn CsnbmvrMiddle r lacks = absurd (lacks tt)
chain_lacks s drawn Csnbcki r lacks = delivered_lacks (codes "chain") s (codes "token") (label_named (value_of r (codes "to"))) _ [] refl refl refl
chain_lacks s drawn CsnbkgnOp r lacks = delivered_lacks (codes "chain") s (codes "token1") (label_named (value_of r (codes "to"))) _ [] refl refl refl
chain_lacks s drawn Csnbkim r lacks = delivered_lacks (codes "chain") s (codes "token") (label_named (value_of r (codes "to"))) _ [] refl refl refl
chain_lacks s drawn Csnbpex r lacks = delivered_lacks (codes "chain") s (codes "token") (label_named (value_of r (codes "to"))) _ [] refl refl refl
chain_lacks s drawn CsnbkpiFirst r lacks = delivered_lacks (codes "chain") s (codes "token") (label_named (value_of r (codes "to"))) _ [] refl refl refl
chain_lacks s drawn CsnbkpiMiddle r lacks = delivered_lacks (codes "chain") s (codes "token") (label_named (value_of r (codes "to"))) _ [] refl refl refl
chain_lacks s drawn CsnbkgnPair r lacks = delivered_lacks (codes "chain") s (codes "token1") (label_named (value_of r (codes "to"))) _ _ refl refl refl
chain_lacks s drawn Csnbkrl r lacks = refl
chain_lacks s drawn _ r lacks = refl

mac_lacks : (s : State) (drawn : List ℕ) (verb : RequestName) (r : Request) → (Needs (needed_points verb r) (point (codes "MGN")) → ⊥) → EffectLacks (codes "mac") s (effect s drawn verb r)
unfolding label_fields
mac_lacks s drawn Csnbmgn r lacks = absurd (lacks tt)
mac_lacks s drawn CsnbmgnLast r lacks = absurd (lacks tt)
mac_lacks s drawn Csnbcki r lacks = delivered_lacks (codes "mac") s (codes "token") (label_named (value_of r (codes "to"))) _ [] refl refl refl
mac_lacks s drawn CsnbkgnOp r lacks = delivered_lacks (codes "mac") s (codes "token1") (label_named (value_of r (codes "to"))) _ [] refl refl refl
mac_lacks s drawn Csnbkim r lacks = delivered_lacks (codes "mac") s (codes "token") (label_named (value_of r (codes "to"))) _ [] refl refl refl
mac_lacks s drawn Csnbpex r lacks = delivered_lacks (codes "mac") s (codes "token") (label_named (value_of r (codes "to"))) _ [] refl refl refl
mac_lacks s drawn CsnbkpiFirst r lacks = delivered_lacks (codes "mac") s (codes "token") (label_named (value_of r (codes "to"))) _ [] refl refl refl
mac_lacks s drawn CsnbkpiMiddle r lacks = delivered_lacks (codes "mac") s (codes "token") (label_named (value_of r (codes "to"))) _ [] refl refl refl
mac_lacks s drawn CsnbkgnPair r lacks = delivered_lacks (codes "mac") s (codes "token1") (label_named (value_of r (codes "to"))) _ _ refl refl refl
mac_lacks s drawn Csnbkrl r lacks = refl
mac_lacks s drawn _ r lacks = refl

match_lacks : (s : State) (drawn : List ℕ) (verb : RequestName) (r : Request) → (Needs (needed_points verb r) (point (codes "MVR")) → ⊥) → EffectLacks (codes "match") s (effect s drawn verb r)
unfolding label_fields
match_lacks s drawn Csnbmvr r lacks = absurd (lacks tt)
match_lacks s drawn CsnbmvrLast r lacks = absurd (lacks tt)
match_lacks s drawn Csnbcki r lacks = delivered_lacks (codes "match") s (codes "token") (label_named (value_of r (codes "to"))) _ [] refl refl refl
match_lacks s drawn CsnbkgnOp r lacks = delivered_lacks (codes "match") s (codes "token1") (label_named (value_of r (codes "to"))) _ [] refl refl refl
match_lacks s drawn Csnbkim r lacks = delivered_lacks (codes "match") s (codes "token") (label_named (value_of r (codes "to"))) _ [] refl refl refl
match_lacks s drawn Csnbpex r lacks = delivered_lacks (codes "match") s (codes "token") (label_named (value_of r (codes "to"))) _ [] refl refl refl
match_lacks s drawn CsnbkpiFirst r lacks = delivered_lacks (codes "match") s (codes "token") (label_named (value_of r (codes "to"))) _ [] refl refl refl
match_lacks s drawn CsnbkpiMiddle r lacks = delivered_lacks (codes "match") s (codes "token") (label_named (value_of r (codes "to"))) _ [] refl refl refl
match_lacks s drawn CsnbkgnPair r lacks = delivered_lacks (codes "match") s (codes "token1") (label_named (value_of r (codes "to"))) _ _ refl refl refl
match_lacks s drawn Csnbkrl r lacks = refl
match_lacks s drawn _ r lacks = refl

value_lacks : (s : State) (drawn : List ℕ) (verb : RequestName) (r : Request) → (Needs (needed_points verb r) (point (codes "KYT")) → ⊥) → EffectLacks (codes "value") s (effect s drawn verb r)
unfolding label_fields
value_lacks s drawn Csnbkyt r lacks = absurd (lacks tt)
value_lacks s drawn Csnbcki r lacks = delivered_lacks (codes "value") s (codes "token") (label_named (value_of r (codes "to"))) _ [] refl refl refl
value_lacks s drawn CsnbkgnOp r lacks = delivered_lacks (codes "value") s (codes "token1") (label_named (value_of r (codes "to"))) _ [] refl refl refl
value_lacks s drawn Csnbkim r lacks = delivered_lacks (codes "value") s (codes "token") (label_named (value_of r (codes "to"))) _ [] refl refl refl
value_lacks s drawn Csnbpex r lacks = delivered_lacks (codes "value") s (codes "token") (label_named (value_of r (codes "to"))) _ [] refl refl refl
value_lacks s drawn CsnbkpiFirst r lacks = delivered_lacks (codes "value") s (codes "token") (label_named (value_of r (codes "to"))) _ [] refl refl refl
value_lacks s drawn CsnbkpiMiddle r lacks = delivered_lacks (codes "value") s (codes "token") (label_named (value_of r (codes "to"))) _ [] refl refl refl
value_lacks s drawn CsnbkgnPair r lacks = delivered_lacks (codes "value") s (codes "token1") (label_named (value_of r (codes "to"))) _ _ refl refl refl
value_lacks s drawn Csnbkrl r lacks = refl
value_lacks s drawn _ r lacks = refl

-- ---- the laws

pub no_text : (s : State) (random : List ℕ) (lines : List (List ℕ)) → EachRequest (HoldsNone text_points) s random lines → EachReply (Lacks (codes "text")) s random lines
no_text = lacks_over (codes "text") text_points refl text_lacks

pub no_chain : (s : State) (random : List ℕ) (lines : List (List ℕ)) → EachRequest (HoldsNone chain_points) s random lines → EachReply (Lacks (codes "chain")) s random lines
no_chain = lacks_over (codes "chain") chain_points refl chain_lacks

pub no_mac : (s : State) (random : List ℕ) (lines : List (List ℕ)) → EachRequest (HoldsNone (point (codes "MGN"))) s random lines → EachReply (Lacks (codes "mac")) s random lines
no_mac = lacks_over (codes "mac") (point (codes "MGN")) refl mac_lacks

pub no_match : (s : State) (random : List ℕ) (lines : List (List ℕ)) → EachRequest (HoldsNone (point (codes "MVR"))) s random lines → EachReply (Lacks (codes "match")) s random lines
no_match = lacks_over (codes "match") (point (codes "MVR")) refl match_lacks

pub no_value : (s : State) (random : List ℕ) (lines : List (List ℕ)) → EachRequest (HoldsNone (point (codes "KYT"))) s random lines → EachReply (Lacks (codes "value")) s random lines
no_value = lacks_over (codes "value") (point (codes "KYT")) refl value_lacks

-- verbs

verb_needs : (name : RequestName) (r : Request) → verb_point name ≢ 0 → Needs (needed_points name r) (verb_point name)
verb_needs Csnbenc r some = tt
verb_needs CsnbencFirst r some = tt
verb_needs CsnbencMiddle r some = tt
verb_needs CsnbencLast r some = tt
verb_needs Csnbdec r some = tt
verb_needs CsnbdecFirst r some = tt
verb_needs CsnbdecMiddle r some = tt
verb_needs CsnbdecLast r some = tt
verb_needs Csnbmgn r some = tt
verb_needs CsnbmgnFirst r some = tt
verb_needs CsnbmgnMiddle r some = tt
verb_needs CsnbmgnLast r some = tt
verb_needs Csnbmvr r some = tt
verb_needs CsnbmvrFirst r some = tt
verb_needs CsnbmvrMiddle r some = tt
verb_needs CsnbmvrLast r some = tt
verb_needs Csnbkyt r some = tt
verb_needs CsnbkgnOut r some = tt
verb_needs Csnbkex r some = tt
verb_needs Csnbktr r some = tt
verb_needs Csnbkrr r some = tt
verb_needs CsnbkgnPair r some = target_needs (point (codes "KGN_PAIR")) (point (codes "KGN_PAIR")) tt tt (label_named (value_of r (codes "to")))
verb_needs _ r some = absurd (some refl)

pub verbs_refused : (s : State) (random : List ℕ) (lines : List (List ℕ)) (points : ℕ) → points ≢ 0 → EachRequest (HoldsNone points) s random lines
    → EachAnswer (λ r given. verb_point r.name ≡ points → IsRefused given) s random lines
verbs_refused s random lines points some each =
    each_answer (λ r given. verb_point r.name ≡ points → IsRefused given) (λ r rule operand is. tt) (HoldsNone points)
    (λ t drawn r none permits is.
    absurd (refuses points t drawn r none permits (subst (Needs (needed_points r.name r)) is (verb_needs r.name r (λ zero. some (sym is ∙ zero))))))
    s random lines each

changes_refused : (target : Target) (rule : List ℕ) → target_named rule ≡ target → Needs (change_points target) (change_points target)
    → (s : State) (random : List ℕ) (lines : List (List ℕ)) → EachRequest (HoldsNone (change_points target)) s random lines
    → EachAnswer (λ r given. r.name ≡ Csnbktc → value_of r (codes "rule") ≡ rule → IsRefused given) s random lines
changes_refused target rule named needs s random lines each =
    each_answer (λ r given. r.name ≡ Csnbktc → value_of r (codes "rule") ≡ rule → IsRefused given) (λ r number operand is same. tt) (HoldsNone (change_points target))
    (λ t drawn r none permits is same.
    let needed : needed_points r.name r ≡ change_points target = ap (λ n. needed_points n r) is ∙ (ap (λ text. change_points (target_named text)) same ∙ ap change_points named) in
    absurd (refuses (change_points target) t drawn r none permits (subst (λ n. Needs n (change_points target)) (sym needed) needs)))
    s random lines each

pub current_refused : (s : State) (random : List ℕ) (lines : List (List ℕ)) → EachRequest (HoldsNone (point (codes "KTC_CURRENT"))) s random lines
    → EachAnswer (λ r given. r.name ≡ Csnbktc → value_of r (codes "rule") ≡ codes "RTCMK" → IsRefused given) s random lines
current_refused = changes_refused Current (codes "RTCMK") refl tt

pub new_refused : (s : State) (random : List ℕ) (lines : List (List ℕ)) → EachRequest (HoldsNone (point (codes "KTC_NEW"))) s random lines
    → EachAnswer (λ r given. r.name ≡ Csnbktc → value_of r (codes "rule") ≡ codes "RTNMK" → IsRefused given) s random lines
new_refused = changes_refused New (codes "RTNMK") refl tt
