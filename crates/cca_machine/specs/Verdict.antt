-- The verdict on a request: the first rule that it breaks, with the operand that breaks it. The rules stand in tables, and
-- each is asked as the tables say. A rule that needs an earlier one doesn't fail where that one does. Rule 34 alone asks
-- the random bytes to come.
use Rattle.std.specs.Prelude.{ℕ, ◌/◌, ◌==◌, Bool, false, not, ◌&&◌, ◌||◌, is_none, is_some, if◌then◌else◌, List, [], ◌∷◌, ◌++◌, length, codes, Option, Some, None}
use Rattle.cca_vectors.specs.Checks.{Check, check, first_failing}
use Rattle.cca_roles.specs.Points.{includes}
use Rattle.cca_roles.specs.Roles.{points_of, define_refused, remove_refused}
pub use Rattle.cca_machine.specs.Points.{action_points, change_points, points_for, target_points}
use Rattle.key_tokens.specs.TokenChecks.{token_checks}
use Rattle.key_tokens.specs.declared.key_token.Asked.TheVariants.{Either}
use Rattle.verb_script.specs.Grammar.{Request, value_of}
use Rattle.verb_script.specs.declared.rows.RequestName.{RequestName}
use Rattle.verb_script.specs.declared.rows.RequestName.TheVariants.{Csnbenc, CsnbencFirst, CsnbencMiddle, CsnbencLast, Csnbdec, CsnbdecFirst, CsnbdecMiddle, CsnbdecLast, Csnbmgn, CsnbmgnFirst, CsnbmgnMiddle, CsnbmgnLast, Csnbmvr, CsnbmvrFirst, CsnbmvrMiddle, CsnbmvrLast, CsnbkgnOp, CsnbkgnPair, CsnbkgnOut, Csnbktc, CsnbkpiFirst, CsnbkpiMiddle, Csnbkrc, CsnbmkpPart, CsnbmkpClear, CsnbmkpSet, CsuaaciDefine, CsuaaciRemove, ReencipherAhead}
use Rattle.verb_script.specs.Named.{label_named}
use Rattle.verb_script.specs.Values.{hex_value}
use Rattle.cca_vectors.specs.Vectors.{length_of}
use Rattle.cca_vectors.specs.declared.key_length.Length.{Length}
use Rattle.cca_vectors.specs.declared.key_type.KeyType.{KeyType}
use Rattle.cipher_verbs.specs.CipherTexts.{enciphering, pad_checks}
use Rattle.cipher_verbs.specs.declared.padding.Pad.{Pad}
use Rattle.cipher_verbs.specs.declared.padding.Pad.TheVariants as padding
use Rattle.record_bodies.specs.Ages.{any_old as any_old_label, any_ahead_entry}
use Rattle.record_bodies.specs.Directory.{free_cell}
use Rattle.record_bodies.specs.Entries.{directory}
use Rattle.record_bodies.specs.Labels.{is_label}
use Rattle.key_tokens.specs.Denotes.{ClearKey}
use Rattle.master_registers.specs.Loaded.{registers_of}
use Rattle.verb_rules.specs.KeyChecks.{key_checks, use_checks}
use Rattle.verb_rules.specs.LengthChecks.{text_checks, mac_checks}
use Rattle.verb_rules.specs.TypeChecks.{pair_checks, length_checks, size_checks}
use Rattle.verb_rules.specs.PartChecks.{part_length_checks, whole_key_checks}
use Rattle.text_segments.specs.Chains.{chain_checks, chain_of}
use Rattle.text_segments.specs.Segments.{last_use, last_checks}
use Rattle.text_segments.specs.declared.chains.Chain.{Chain}
use Rattle.text_segments.specs.declared.modes.Mode.{Mode}
use Rattle.text_segments.specs.declared.modes.Mode.TheVariants.{Encipher, Decipher, Mac}
use Rattle.key_transport.specs.UniqueHalves.{repeats}
use Rattle.key_transport.specs.declared.changing.Target.{Target}
use Rattle.key_transport.specs.declared.changing.Target.TheVariants.{Current, New}
use Rattle.master_registers.specs.Masters.{Masters, set_refused, has_pattern_of}
use Rattle.verb_rules.specs.declared.lengths.MacRule.{MacRule}
use Rattle.verb_rules.specs.declared.needs.Need.{Need}
use Rattle.verb_rules.specs.declared.lengths.TextUse.TheVariants as use_of
use Rattle.cca_machine.specs.State.{State}
use Rattle.cca_machine.specs.Choices.{pad_named, mac_rule_named, type_in, target_named}
use Rattle.cca_machine.specs.Draws.{Draw, NoBytes, EightBytes, KeyBytes, draw_of, length_in}
use Rattle.cca_machine.specs.Keys.{key_bytes, key_of_request, key_of_label, cell_with, or_no_key}
use Rattle.cca_machine.specs.Operands.{Operand, operands, listed}
pub use Rattle.cca_machine.specs.Operands.{needed_points, needs_master}
use Rattle.cca_machine.specs.Actions.{part_action, action_checks}
use Rattle.master_registers.specs.declared.actions.Action.{Action}
use Rattle.master_registers.specs.declared.actions.Action.TheVariants.{Clear, Set}
use Rattle.cca_machine.specs.declared.asking.Ask.{Ask}
use Rattle.cca_machine.specs.declared.asking.Ask.TheVariants as ask

-- rules that are asked of one operand, in their order; where they speak of the line or of the request as
-- a whole, the operand is `-`
pub record Questions : Type 0 where
  pub operand : List ℕ
  pub checks : List Check

abbrev pub questions : List ℕ → List Check → Questions
questions operand checks = record { operand = operand; checks = checks }

-- a rule that is broken, and the operand that breaks it
pub record Refusal : Type 0 where
  pub rule : ℕ
  pub operand : List ℕ

abbrev pub refusal : ℕ → List ℕ → Refusal
refusal rule operand = record { rule = rule; operand = operand }

abbrev pub or_refused : Option ℕ → List ℕ → Option Refusal → Option Refusal
or_refused None operand others = others
or_refused (Some rule) operand others = Some (refusal rule operand)

-- the first rule that is broken
abbrev pub first_refusal : List Questions → Option Refusal
first_refusal [] = None
first_refusal (q ∷ qs) = or_refused (first_failing q.checks) q.operand (first_refusal qs)

abbrev pub or_then : Option Refusal → Option Refusal → Option Refusal
or_then None others = others
or_then (Some r) others = Some r

-- ---- the request as a whole

-- a role that is held lacks a point
abbrev pub lacks : Option ℕ → ℕ → Bool
lacks None needed = false
lacks (Some held) needed = not (includes held needed)

-- the points of the request's role, where it is held
abbrev pub held_points : State → Request → Option ℕ
held_points s request = points_of (value_of request (codes "role")) s.roles

-- Of a role, by the points that it has where it is held, those that it needs, and whether it needs the master key. Rule
-- 03: the role isn't held; rule 04: it lacks a point; rule 05: the current register is empty.
abbrev pub checks_of_role : State → Option ℕ → ℕ → Bool → List Check
checks_of_role s held needed master =
    check 3 (is_none held)
    ∷ check 4 (lacks held needed)
    ∷ check 5 (master && is_none s.registers.current)
    ∷ []

-- the same of the role of a request
abbrev pub general_checks : State → Request → List Check
general_checks s request =
    checks_of_role s (held_points s request) (needed_points request.name request) (needs_master request.name)

-- ---- its operands

-- the bytes that the digits of a field spell
abbrev pub bytes_in : Request → List ℕ → List ℕ
bytes_in request name = hex_value (value_of request name)

-- how many bytes the digits of the text spell
abbrev pub text_size : Request → ℕ
text_size request = length (value_of request (codes "text")) / 2

-- rule 06: the text is no label
abbrev pub label_check : List ℕ → Check
label_check label = check 6 (not (is_label label))

-- and rule 07: no record has the label
abbrev pub held_checks : State → List ℕ → List Check
held_checks s label = label_check label ∷ check 7 (is_none (cell_with s label)) ∷ []

-- and rule 08: its record is null
abbrev pub record_checks : State → List ℕ → List Check
record_checks s label =
    label_check label
    ∷ check 7 (is_none (cell_with s label))
    ∷ check 8 (is_none (key_of_label s label))
    ∷ []

-- of a key by its label rules 06 to 08, 17 and 19 to 22; of a token rules 09 to 22
abbrev pub key_questions : State → Need → Option (List ℕ) → List ℕ → List Check
key_questions s need None text = key_checks need (registers_of s.registers) (key_bytes text)
key_questions s need (Some label) text =
    record_checks s label ++ use_checks need (or_no_key (key_of_label s label)).clear.vector

-- where a key goes: nothing is asked where that is the reply
abbrev pub target_checks : State → Option (List ℕ) → List Check
target_checks s None = []
target_checks s (Some label) = held_checks s label

-- what is asked of an operand
abbrev pub operand_checks : State → List ℕ → Ask → List Check
operand_checks s text ask.AnyToken = token_checks Either (hex_value text)
operand_checks s text (ask.Key need) = key_questions s need (label_named text) text
operand_checks s text (ask.Token need) = key_checks need (registers_of s.registers) (hex_value text)
operand_checks s text (ask.External need) =
    key_checks need (registers_of s.registers) (hex_value text)
operand_checks s text ask.Record = record_checks s text
operand_checks s text ask.Held = held_checks s text
operand_checks s text ask.NewLabel = label_check text ∷ []
operand_checks s text ask.Target = target_checks s (label_named text)
operand_checks s text ask.Nothing = []

abbrev pub operand_questions : State → List Operand → List Questions
operand_questions s [] = []
operand_questions s (o ∷ os) =
    questions o.name (operand_checks s o.text o.ask) ∷ operand_questions s os

abbrev pub operands_verdict : State → Request → Option Refusal
operands_verdict s request = first_refusal (operand_questions s (listed (operands request)))

-- ---- its verb

abbrev pub action_questions : State → Action → List Questions
action_questions s action = questions (codes "-") (action_checks action s.registers) ∷ []

-- of SET rules 25 and 26, and rule 27: a label is under the old master key
abbrev pub set_questions : State → List Questions
set_questions s =
    questions (codes "-")
    (action_checks Set s.registers ++ (check 27 (any_old_label s.labels) ∷ [])) ∷ []

-- of CLEAR rule 33: a label is ahead
abbrev pub clear_questions : State → List Questions
clear_questions s =
    questions (codes "-")
    (action_checks Clear s.registers ++ (check 33 (any_ahead_entry s.labels) ∷ [])) ∷ []

-- Rule 25: the new register isn't full. Rule 26: it has the pattern of the current or of a full old one. Rule 27: a label
-- is under the old master key.
abbrev pub ahead_checks : Masters → Bool → List Check
ahead_checks m old =
    check 25 (set_refused m)
    ∷ check 26 (has_pattern_of m.coming m.current || has_pattern_of m.coming m.former)
    ∷ check 27 old
    ∷ []

abbrev pub ahead_questions : State → List Questions
ahead_questions s =
    questions (codes "-") (ahead_checks s.registers (any_old_label s.labels)) ∷ []

-- rule 28: every cell holds a label; rule 29: the label is held
abbrev pub create_questions : State → List ℕ → List Questions
create_questions s label =
    questions (codes "label")
    (check 28 (free_cell (directory s.labels) == 1024)
    ∷ check 29 (is_some (cell_with s label)) ∷ []) ∷ []

-- rule 30: the role table is full
abbrev pub define_questions : State → List ℕ → List Questions
define_questions s name =
    questions (codes "name") (check 30 (define_refused name s.roles) ∷ []) ∷ []

-- rule 30: the role isn't held
abbrev pub remove_questions : State → List ℕ → List Questions
remove_questions s name =
    questions (codes "name") (check 30 (remove_refused name s.roles) ∷ []) ∷ []

-- rule 23 of a text that is enciphered
abbrev pub encipher_questions : Pad → ℕ → List Questions
encipher_questions padding size =
    questions (codes "text") (text_checks (enciphering padding) size) ∷ []

-- rule 23 of a text that is deciphered, and rule 31 of the deciphered text
abbrev pub decipher_questions : ℕ → ClearKey → List ℕ → Pad → List ℕ → List Questions
decipher_questions size key start padding text =
    questions (codes "text") (text_checks use_of.Decipher size)
    ∷ questions (codes "text") (pad_checks key start padding text)
    ∷ []

-- rule 23 of the text, and rule 32 of the key
abbrev pub mac_questions : MacRule → ℕ → ClearKey → List Questions
mac_questions rule size key =
    questions (codes "text") (text_checks use_of.Mac size)
    ∷ questions (codes "key") (mac_checks rule (length_of key.vector))
    ∷ []

-- rule 23 of a segment that isn't the last
abbrev pub segment_questions : ℕ → List Questions
segment_questions size = questions (codes "text") (text_checks use_of.Segment size) ∷ []

-- rule 36 of the chain that a segment goes on from, and then the others
abbrev pub chain_questions : List ℕ → List Questions → List Questions
chain_questions chain others = questions (codes "chain") (chain_checks chain) ∷ others

-- rule 23 of the last segment, together with the bytes that are carried
abbrev pub last_segment_questions : Mode → Pad → Chain → ℕ → List Questions
last_segment_questions mode padding chain size =
    questions (codes "text") (text_checks (last_use mode padding (length chain.carried)) size) ∷ []

-- and rule 31 of the deciphered text
abbrev pub last_text_questions : Mode → ClearKey → Chain → Pad → ℕ → List ℕ → List Questions
last_text_questions mode clear chain padding size text =
    last_segment_questions mode padding chain size
    ++ (questions (codes "text") (last_checks clear mode chain padding text) ∷ [])

-- and rule 32 of the key of a code
abbrev pub code_key_questions : MacRule → ClearKey → List Questions → List Questions
code_key_questions rule clear others =
    others ++ (questions (codes "key") (mac_checks rule (length_of clear.vector)) ∷ [])

-- the chain in a request's field
abbrev pub chain_in : Request → Chain
chain_in r = chain_of (bytes_in r (codes "chain"))

abbrev pub middle_questions : Request → List Questions
middle_questions r =
    chain_questions (bytes_in r (codes "chain")) (segment_questions (text_size r))

abbrev pub last_questions : State → Mode → Request → List Questions
last_questions s mode r =
    chain_questions (bytes_in r (codes "chain"))
    (last_text_questions mode (key_of_request s r) (chain_in r)
    (pad_named (value_of r (codes "pad"))) (text_size r) (bytes_in r (codes "text")))

abbrev pub code_rule : Request → MacRule
code_rule r = mac_rule_named (value_of r (codes "rule"))

abbrev pub first_code_questions : State → Request → List Questions
first_code_questions s r =
    code_key_questions (code_rule r) (key_of_request s r) (segment_questions (text_size r))

abbrev pub middle_code_questions : State → Request → List Questions
middle_code_questions s r =
    code_key_questions (code_rule r) (key_of_request s r) (middle_questions r)

abbrev pub last_code_questions : State → Request → List Questions
last_code_questions s r =
    code_key_questions (code_rule r) (key_of_request s r)
    (chain_questions (bytes_in r (codes "chain"))
    (last_segment_questions (Mac (code_rule r)) padding.None (chain_in r) (text_size r)))

-- rule 32 of the first part of a key: the key's type doesn't have this length
abbrev pub first_part_questions : KeyType → ℕ → List Questions
first_part_questions kind size = questions (codes "part") (size_checks kind size) ∷ []

-- rule 32 of a further part: it hasn't the key's length; rule 35: the key is whole
abbrev pub further_part_questions : List ℕ → ℕ → List Questions
further_part_questions vector length =
    questions (codes "part") (part_length_checks vector length)
    ∷ questions (codes "key") (whole_key_checks vector)
    ∷ []

-- the bytes of the part in a request's field
abbrev pub part_in : Request → List ℕ
part_in r = bytes_in r (codes "part")

-- how many bytes the digits of the part spell
abbrev pub part_size : Request → ℕ
part_size r = length (value_of r (codes "part")) / 2

abbrev pub code_questions : State → Request → List Questions
code_questions s r =
    mac_questions (mac_rule_named (value_of r (codes "rule"))) (text_size r) (key_of_request s r)

-- rule 32 of the length of one generated key
abbrev pub generate_questions : KeyType → Length → List Questions
generate_questions kind key_length =
    questions (codes "length") (length_checks kind key_length) ∷ []

-- rule 24 of the types of two, and rule 32 of their length
abbrev pub pair_questions : KeyType → KeyType → Length → List Questions
pair_questions first second key_length =
    questions (codes "type2") (pair_checks first second)
    ∷ questions (codes "length") (length_checks first key_length)
    ∷ questions (codes "length") (length_checks second key_length)
    ∷ []

-- the types and the length that a request's fields name
abbrev pub asked_of_one : Request → List Questions
asked_of_one r =
    generate_questions (type_in (value_of r (codes "type1"))) (length_in r)

abbrev pub asked_of_two : Request → List Questions
asked_of_two r =
    pair_questions (type_in (value_of r (codes "type1"))) (type_in (value_of r (codes "type2")))
    (length_in r)

-- rule 25 of a token that is changed to the new master key: the new register isn't full
abbrev pub change_questions : State → Target → List Questions
change_questions s Current = []
change_questions s New = questions (codes "-") (check 25 (set_refused s.registers) ∷ []) ∷ []

abbrev pub verb_questions : State → RequestName → Request → List Questions
verb_questions s Csnbenc r = encipher_questions (pad_named (value_of r (codes "pad"))) (text_size r)
verb_questions s CsnbencFirst r = segment_questions (text_size r)
verb_questions s CsnbencMiddle r = middle_questions r
verb_questions s CsnbencLast r = last_questions s Encipher r
verb_questions s Csnbdec r =
    decipher_questions (text_size r) (key_of_request s r) (bytes_in r (codes "iv"))
    (pad_named (value_of r (codes "pad"))) (bytes_in r (codes "text"))
verb_questions s CsnbdecFirst r = segment_questions (text_size r)
verb_questions s CsnbdecMiddle r = middle_questions r
verb_questions s CsnbdecLast r = last_questions s Decipher r
verb_questions s Csnbmgn r = code_questions s r
verb_questions s CsnbmgnFirst r = first_code_questions s r
verb_questions s CsnbmgnMiddle r = middle_code_questions s r
verb_questions s CsnbmgnLast r = last_code_questions s r
verb_questions s Csnbmvr r = code_questions s r
verb_questions s CsnbmvrFirst r = first_code_questions s r
verb_questions s CsnbmvrMiddle r = middle_code_questions s r
verb_questions s CsnbmvrLast r = last_code_questions s r
verb_questions s CsnbkgnOp r = asked_of_one r
verb_questions s CsnbkgnPair r = asked_of_two r
verb_questions s CsnbkgnOut r = asked_of_two r
verb_questions s Csnbktc r = change_questions s (target_named (value_of r (codes "rule")))
verb_questions s CsnbkpiFirst r =
    first_part_questions (type_in (value_of r (codes "type"))) (part_size r)
verb_questions s CsnbkpiMiddle r =
    further_part_questions (key_of_request s r).vector (part_size r)
verb_questions s Csnbkrc r = create_questions s (value_of r (codes "label"))
verb_questions s CsnbmkpPart r = action_questions s (part_action (value_of r (codes "action")))
verb_questions s CsnbmkpClear r = clear_questions s
verb_questions s CsnbmkpSet r = set_questions s
verb_questions s CsuaaciDefine r = define_questions s (value_of r (codes "name"))
verb_questions s CsuaaciRemove r = remove_questions s (value_of r (codes "name"))
verb_questions s ReencipherAhead r = ahead_questions s
verb_questions s _ r = []

-- the rules of the verb that are asked before a random byte is drawn
abbrev pub verb_verdict : State → Request → Option Refusal
verb_verdict s request = first_refusal (verb_questions s request.name request)

-- rule 34, which is asked last: no key with unique halves can be made of the random bytes to come
abbrev pub draw_verdict : Draw → List ℕ → Option Refusal
draw_verdict NoBytes random = None
draw_verdict EightBytes random = None
draw_verdict (KeyBytes key_length) random =
    if repeats key_length random then Some (refusal 34 (codes "length")) else None

-- where the last rule doesn't fail, those before it decide
abbrev pub or_last : Option Refusal → Option Refusal → Option Refusal
or_last before None = before
or_last before (Some last) = or_then before (Some last)

-- all the rules of the verb
abbrev pub whole_verb_verdict : State → List ℕ → Request → Option Refusal
whole_verb_verdict s random request =
    or_last (verb_verdict s request) (draw_verdict (draw_of request.name request) random)

-- ---- the verdict

-- the rules of the request as a whole, then those of its operands in their order, then those of its verb
abbrev pub verdict_by : State → Request → Option Refusal → Option Refusal
verdict_by s request verb =
    or_refused (first_failing (general_checks s request)) (codes "-")
    (or_then (operands_verdict s request) verb)

-- of the rules that are asked before a random byte is drawn
abbrev pub early_verdict : State → Request → Option Refusal
early_verdict s request = verdict_by s request (verb_verdict s request)

-- of all the rules, with the random bytes to come
abbrev pub verdict : State → List ℕ → Request → Option Refusal
verdict s random request = verdict_by s request (whole_verb_verdict s random request)
