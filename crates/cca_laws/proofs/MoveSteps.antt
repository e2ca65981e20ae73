-- What each of the two lines of a moved label makes of the other module's state.
use Rattle.std.proofs.Common.{◌≡◌, ℕ, ◌≤◌, ◌==◌, Bool, true, false, List, [], ◌∷◌, length, take, drop, Option, None, Some, refl, sym, ap, subst, ◌∙◌, codes, bit_and, bit_or, eq-eqb, eqb-true}
use Rattle.std.specs.Prelude.{is_none, is_some, not, ◌||◌, if◌then◌else◌}
use Rattle.std.specs.Option.{option_map}
use Rattle.std.specs.Result.{result_unwrap_or}
use Rattle.std.specs.Str.{bytes_eq}
use Rattle.std.proofs.lemmas.Bool.{ne_eqb}
use Rattle.std.proofs.lemmas.Nat.{and_assoc}
use Rattle.hex.specs.Hex.{encode_lower}
use Rattle.hex.proofs.HexLemmas.{decode_of-encode_lower}
use Rattle.cca_roles.specs.Names.{IsLabel, IsRoleName}
use Rattle.cca_roles.specs.Points.{includes}
use Rattle.cca_roles.specs.Roles.{points_of}
use Rattle.cca_vectors.specs.Checks.{check, first_failing}
use Rattle.cca_vectors.specs.Classes.{class_of}
use Rattle.cca_vectors.specs.Permissions.{is_exportable}
use Rattle.cca_vectors.specs.Vectors.{is_part_of, length_of}
use Rattle.cca_vectors.specs.declared.key_class.Class.TheVariants.{Importer}
use Rattle.cca_vectors.specs.declared.key_usage.Usage.TheVariants.{Transport}
use Rattle.cca_vectors.proofs.Judging.{passed_over}
use Rattle.record_bodies.specs.LabelChanges.{created}
use Rattle.record_bodies.specs.Directory.{cell_of, free_cell}
use Rattle.record_bodies.specs.Entries.{Entry, directory}
use Rattle.key_tokens.specs.Denotes.{ClearKey, Denoted, denoted_under}
use Rattle.key_tokens.specs.Fields.{token_of}
use Rattle.key_tokens.specs.TokenChecks.{token_checks}
use Rattle.key_tokens.specs.declared.key_token.Asked.TheVariants as asked
use Rattle.key_tokens.specs.declared.key_token.Kind.{Kind}
use Rattle.key_tokens.specs.declared.key_token.Kind.TheVariants.{External}
use Rattle.key_tokens.specs.declared.key_token.Token.{Token}
use Rattle.key_transport.specs.Tokens.{as_current, external_token}
use Rattle.master_registers.specs.Loaded.{registers_of}
use Rattle.master_registers.specs.Masters.{Masters}
use Rattle.master_registers.specs.declared.registers.Registers.{Registers}
use Rattle.line_service.specs.Reading.{line_limit}
use Rattle.line_service.specs.Replies.{two_digits}
use Rattle.store_move.specs.Exports.{export_checks}
use Rattle.verb_rules.specs.KeyChecks.{is_under_none, key_checks, read_checks, use_checks}
use Rattle.verb_rules.specs.declared.needs.Need.{Need}
use Rattle.verb_rules.proofs.NeedLemmas.{every_has}
use Rattle.verb_script.specs.Grammar.{Request}
use Rattle.verb_script.specs.declared.rows.RequestName.TheVariants.{Csnbkim, Csnbkrc}
use Rattle.verb_script.specs.Named.{label_named}
use Rattle.verb_script.specs.Requests.{request_of}
use Rattle.verb_script.specs.Values.{hex_value}
use Rattle.cca_laws.proofs.LabelTexts.{label_may}
use Rattle.cca_machine.specs.Act.{delivered_with, or_act, performed, state_after, written_in}
use Rattle.cca_machine.specs.Keys.{cell_with, imported, key_in_field, key_named, key_of_label, or_no_clear, or_no_key, what_at}
use Rattle.cca_machine.specs.Draws.{draws_random}
use Rattle.cca_machine.specs.Lines.{line_outcome, taken_by}
use Rattle.cca_machine.specs.Operands.{external_key, transport_key}
use Rattle.cca_machine.specs.Points.{point}
use Rattle.cca_machine.specs.State.{State}
use Rattle.cca_machine.specs.Verdict.{Refusal, bytes_in, first_refusal, general_checks, held_points, key_questions, lacks, needed_points, operands_verdict, or_refused, or_then, points_for, questions, record_checks, target_checks, verb_verdict, verdict}
use Rattle.cca_machine.proofs.DrawLaws.{undrawing_takes, verdict_undrawing}
use Rattle.cca_machine.proofs.LineLaws.{line-request}
use Rattle.store_unload.specs.Moves.{clear_of, create_line, import_line, token_of_label}
use Rattle.command_words.specs.declared.moves.Move.{Move}
use Rattle.cca_laws.specs.KeyInParts.{by_label}
use Rattle.cca_laws.specs.Moving.{IsMovedLabel, IsPermittedMove, Receives, receiving_points}
use Rattle.cca_laws.specs.Uses.{IsTransportKey}
use Rattle.cca_laws.proofs.MoveRequests.{create_line_is, create_line_short, create_request, import_line_is, import_line_short, import_request}
use Rattle.cca_laws.proofs.MoveTokens.{IsWhole, label_full, label_well, label_whole, out_denotes, out_fits, out_kind, out_long, out_passes, out_vector}

-- what CSNBKRC of a label makes of the labels: nothing where it is held, or where no cell is free
abbrev pub after_create : List ℕ → List (Option Entry) → List (Option Entry)
after_create label es =
    if is_some (cell_of label (directory es)) || free_cell (directory es) == 1024 then es else created label es

-- what CSNBKIM into the record of a label makes of them: nothing where it isn't held
abbrev pub after_import : List ℕ → Denoted → List (Option Entry) → List (Option Entry)
after_import label key es = written_in (cell_of label (directory es)) key es

-- a state on the way: roles, registers and what the transport key's label holds are still those of t
pub record IsReady (w : Move) (t u : State) : Type 0 where
  pub roles : u.roles ≡ t.roles
  pub registers : u.registers ≡ t.registers
  pub transport : key_of_label u w.transport_there ≡ key_of_label t w.transport_there

-- ---- a line that draws no random byte

drop_none : (n : ℕ) (random : List ℕ) → n ≡ 0 → drop n random ≡ random
drop_none n random is = ap (λ k. drop k random) is

-- the state after it, by the verdict
line_leaves : (u : State) (random line : List ℕ) (r : Request) (v : Option Refusal) (after : State) → length line ≤ line_limit → request_of line ≡ Some r
    → draws_random r ≡ false → ((drawn : List ℕ) → verdict u drawn r ≡ v) → ((drawn : List ℕ) → (or_act v u drawn r).state ≡ after)
    → ((line_outcome u random line).state ≡ after) × ((line_outcome u random line).random ≡ random)
unfolding performed
line_leaves u random line r v after short spelled draws_none is leaves =
    let whole = line-request u random line r short spelled in
    let count : ℕ = taken_by u random r in
    let drawn : List ℕ = take count random in (
      ap (λ o. o.state) whole ∙ (ap (λ (x : Option Refusal). (or_act x u drawn r).state) (is drawn) ∙ leaves drawn),
      ap (λ o. o.random) whole ∙ drop_none count random (undrawing_takes u random r draws_none),
    )

-- its verdict, where the rules of the request as a whole pass
pub verdict_is : (u : State) (random : List ℕ) (r : Request) (o : Option Refusal) → draws_random r ≡ false → first_failing (general_checks u r) ≡ None
    → operands_verdict u r ≡ o → verdict u random r ≡ or_then o (verb_verdict u r)
verdict_is u random r o draws_none general operands_are =
    verdict_undrawing u random r draws_none
    ∙ (ap (λ (f : Option ℕ). or_refused f (codes "-") (or_then (operands_verdict u r) (verb_verdict u r))) general
    ∙ ap (λ (x : Option Refusal). or_then x (verb_verdict u r)) operands_are)

-- the rules of the request as a whole
general_passes : (h : Option ℕ) (held needed : ℕ) (empty : Bool) → h ≡ Some held → includes held needed ≡ true → empty ≡ false
    → first_failing (check 3 (is_none h) ∷ check 4 (lacks h needed) ∷ check 5 empty ∷ []) ≡ None
general_passes h held needed empty is may some =
    ap (λ (o : Option ℕ). first_failing (check 3 (is_none o) ∷ check 4 (lacks o needed) ∷ check 5 empty ∷ [])) is
    ∙ (ap (λ b. first_failing (check 4 (not b) ∷ check 5 empty ∷ [])) may ∙ ap (λ b. first_failing (check 5 b ∷ [])) some)

-- the verdict on the operands of CSNBKIM, by the cell of its label
abbrev target_refusal : Option ℕ → Option Refusal
target_refusal cell = or_refused (first_failing (check 7 (is_none cell) ∷ [])) (codes "to") None

third_alone : (a b c d : Option ℕ) → a ≡ None → b ≡ None → c ≡ d
    → or_refused a (codes "token") (or_refused b (codes "transport") (or_refused c (codes "to") None)) ≡ or_refused d (codes "to") None
third_alone a b c d first second third =
    ap (λ (o : Option ℕ). or_refused o (codes "token") (or_refused b (codes "transport") (or_refused c (codes "to") None))) first
    ∙ (ap (λ (o : Option ℕ). or_refused o (codes "transport") (or_refused c (codes "to") None)) second
    ∙ ap (λ (o : Option ℕ). or_refused o (codes "to") None) third)

-- ---- points

-- what holds all of some points holds some of them
pub includes_part : (held all part : ℕ) → includes held all ≡ true → bit_and all part ≡ part → includes held part ≡ true
includes_part held all part whole within =
    eq-eqb (bit_and held part) part
    (ap (bit_and held) (sym within) ∙ (sym (and_assoc part held all) ∙ (ap (λ n. bit_and n part) (eqb-true (bit_and held all) all whole) ∙ within)))

-- ---- a key's control vector

-- an external token of a whole key breaks no rule
token_passes : (held : Registers) (bytes : List ℕ) → first_failing (token_checks asked.External bytes) ≡ None → (token_of bytes).kind ≡ External
    → is_part_of (token_of bytes).vector ≡ false → first_failing (key_checks external_key held bytes) ≡ None
token_passes held bytes sound external part =
    passed_over (token_checks asked.External bytes) (read_checks external_key held (token_of bytes)) sound ∙ read (token_of bytes) external part
  where
    read : (token : Token) → token.kind ≡ External → is_part_of token.vector ≡ false → first_failing (read_checks external_key held token) ≡ None
    read token kind whole =
        let under : is_under_none held token.kind token.pattern ≡ false = ap (λ (k : Kind). is_under_none held k token.pattern) kind in
        rw (whole, under, every_has (class_of token.vector)) refl

-- a whole key that may carry others breaks no rule of a transport key
carrier_passes : (vector : List ℕ) → IsTransportKey Importer Transport vector → is_part_of vector ≡ false → first_failing (use_checks (transport_key Importer Transport) vector) ≡ None
carrier_passes vector may whole =
    let double : (length_of vector == 8) ≡ false = ne_eqb (length_of vector) 8 may.2 in
    rw (whole, may.0, may.1, double) refl

-- the label of a record that holds a key
record_passes : (u : State) (label : List ℕ) (key : Denoted) → IsLabel label → key_of_label u label ≡ Some key → first_failing (record_checks u label) ≡ None
record_passes u label key well is = by_cell (cell_with u label) refl
  where
    by_cell : (o : Option ℕ) → cell_with u label ≡ o → first_failing (record_checks u label) ≡ None
    by_cell None none = let nothing : None ≡ Some key = sym (ap (what_at u.labels) none) ∙ is in cc
    by_cell (Some cell) held =
        let some : is_none (key_of_label u label) ≡ false = ap (λ (k : Option Denoted). is_none k) is in
        let cells : is_none (cell_with u label) ≡ false = ap (λ (c : Option ℕ). is_none c) held in
        rw (well, cells, some) refl

pub named : (label : List ℕ) → IsLabel label → label_named (by_label label) ≡ Some label
named label well = ap (λ t. if t then Some label else None) (label_may label well)

-- ---- the steps

module _ (w : Move) (t u : State) (random label : List ℕ) (role : IsRoleName w.role_there) (transport : IsLabel w.transport_there) (ready : IsReady w t u)
    (points : ℕ) (held : points_of w.role_there t.roles ≡ Some points) (includes_all : includes points receiving_points ≡ true) (well : IsLabel label) where
  role_held : points_of w.role_there u.roles ≡ Some points
  role_held = ap (points_of w.role_there) ready.roles ∙ held

  -- ---- CSNBKRC

  abbrev creation : Request
  creation = create_request w label

  create_general : first_failing (general_checks u creation) ≡ None
  create_general =
      let may : includes points (point (codes "KRC")) ≡ true = includes_part points receiving_points (point (codes "KRC")) includes_all refl in
      general_passes (held_points u creation) points (needed_points Csnbkrc creation) false role_held may refl

  create_operands : operands_verdict u creation ≡ None
  create_operands = rw (well) refl

  abbrev create_refusal : Bool → Bool → Option Refusal
  create_refusal full known = first_refusal (questions (codes "label") (check 28 full ∷ check 29 known ∷ []) ∷ [])

  create_leaves : (full known : Bool) (drawn : List ℕ)
      → (or_act (create_refusal full known) u drawn creation).state ≡ record u { labels = if known || full then u.labels else created label u.labels }
  create_leaves true true drawn = refl
  create_leaves true false drawn = refl
  create_leaves false true drawn = refl
  create_leaves false false drawn = refl

  pub creates : ((line_outcome u random (create_line w label)).state ≡ record u { labels = after_create label u.labels })
      × ((line_outcome u random (create_line w label)).random ≡ random)
  creates =
      let full : Bool = free_cell (directory u.labels) == 1024 in
      let known : Bool = is_some (cell_with u label) in
      line_leaves u random (create_line w label) creation (create_refusal full known) (record u { labels = after_create label u.labels })
      (create_line_short w role transport label well) (create_line_is w role transport label well) refl
      (λ drawn. verdict_is u drawn creation None refl create_general create_operands)
      (create_leaves full known)

  -- ---- CSNBKIM

  module _ (carrier : Denoted) (found : key_of_label t w.transport_there ≡ Some carrier) (full : is_none t.registers.current ≡ false)
      (may : IsTransportKey Importer Transport carrier.clear.vector) (single : is_part_of carrier.clear.vector ≡ false) (under : List ℕ) (shared : carrier.clear.key ≡ under)
      (clear : ClearKey) (whole : IsWhole clear) (part : is_part_of clear.vector ≡ false) where
    abbrev token : List ℕ
    token = external_token under clear

    abbrev importing : Request
    importing = import_request w token label

    abbrev carries : Need
    carries = transport_key Importer Transport

    found_here : key_of_label u w.transport_there ≡ Some carrier
    found_here = ready.transport ∙ found

    spelled_back : hex_value (encode_lower token) ≡ token
    spelled_back = ap (λ x. result_unwrap_or x []) (decode_of-encode_lower token (out_fits under clear whole))

    import_general : first_failing (general_checks u importing) ≡ None
    import_general =
        let may_too : includes points (needed_points Csnbkim importing) ≡ true =
        ap (λ (o : Option (List ℕ)). includes points (bit_or (point (codes "KIM")) (points_for o))) (named label well)
        ∙ includes_part points receiving_points (bit_or (point (codes "KIM")) (point (codes "KRW"))) includes_all refl in
        let some : is_none u.registers.current ≡ false = ap (λ (m : Masters). is_none m.current) ready.registers ∙ full in
        general_passes (held_points u importing) points (needed_points Csnbkim importing) (is_none u.registers.current) role_held may_too some

    token_none : first_failing (key_checks external_key (registers_of u.registers) (bytes_in importing (codes "token"))) ≡ None
    token_none =
        ap (λ bytes. first_failing (key_checks external_key (registers_of u.registers) bytes)) spelled_back
        ∙ token_passes (registers_of u.registers) token (out_passes under clear whole) (out_kind under clear whole)
        (ap is_part_of (out_vector under clear whole) ∙ part)

    transport_none : first_failing (key_questions u carries (label_named (by_label w.transport_there)) (by_label w.transport_there)) ≡ None
    transport_none =
        ap (λ (o : Option (List ℕ)). first_failing (key_questions u carries o (by_label w.transport_there))) (named w.transport_there transport)
        ∙ (passed_over (record_checks u w.transport_there) (use_checks carries (or_no_key (key_of_label u w.transport_there)).clear.vector)
        (record_passes u w.transport_there carrier transport found_here)
        ∙ (ap (λ (k : Option Denoted). first_failing (use_checks carries (or_no_key k).clear.vector)) found_here
        ∙ carrier_passes carrier.clear.vector may single))

    target_is : first_failing (target_checks u (label_named (by_label label))) ≡ first_failing (check 7 (is_none (cell_with u label)) ∷ [])
    target_is =
        ap (λ (o : Option (List ℕ)). first_failing (target_checks u o)) (named label well)
        ∙ ap (λ b. first_failing (check 6 (not b) ∷ check 7 (is_none (cell_with u label)) ∷ [])) well

    import_operands : operands_verdict u importing ≡ target_refusal (cell_with u label)
    import_operands = third_alone _ _ _ _ token_none transport_none target_is

    imported_is : imported (key_in_field u importing (codes "transport")) (bytes_in importing (codes "token")) ≡ clear
    imported_is =
        let field : key_in_field u importing (codes "transport") ≡ carrier.clear =
        ap (λ (o : Option (List ℕ)). (or_no_key (key_named u o (by_label w.transport_there))).clear) (named w.transport_there transport)
        ∙ ap (λ (k : Option Denoted). (or_no_key k).clear) found_here in
        ap (λ (k : ClearKey). or_no_clear (denoted_under k.key (hex_value (encode_lower token)))) field
        ∙ (ap (λ key. or_no_clear (denoted_under key (hex_value (encode_lower token)))) shared
        ∙ (ap (λ bytes. or_no_clear (denoted_under under bytes)) spelled_back
        ∙ ap or_no_clear (out_denotes under clear whole)))

    import_leaves : (c : Option ℕ) → cell_with u label ≡ c → (drawn : List ℕ)
        → (or_act (or_then (target_refusal c) None) u drawn importing).state ≡ record u { labels = written_in c (as_current clear) u.labels }
    import_leaves None is drawn = refl
    import_leaves (Some cell) is drawn =
        ap (λ (o : Option (List ℕ)). (state_after u (delivered_with u (codes "token") o (as_current (imported (key_in_field u importing (codes "transport")) (bytes_in importing (codes "token")))) [])))
        (named label well)
        ∙ (ap (λ (k : ClearKey). record u { labels = written_in (cell_with u label) (as_current k) u.labels }) imported_is
        ∙ ap (λ (c : Option ℕ). record u { labels = written_in c (as_current clear) u.labels }) is)

    pub imports : ((line_outcome u random (import_line w token label)).state ≡ record u { labels = after_import label (as_current clear) u.labels })
        × ((line_outcome u random (import_line w token label)).random ≡ random)
    imports =
        line_leaves u random (import_line w token label) importing (or_then (target_refusal (cell_with u label)) None)
        (record u { labels = after_import label (as_current clear) u.labels })
        (import_line_short w role transport label well token (out_long under clear whole) (out_fits under clear whole))
        (import_line_is w role transport label well token (out_long under clear whole) (out_fits under clear whole)) refl
        (λ drawn. verdict_is u drawn importing (target_refusal (cell_with u label)) refl import_general import_operands)
        (import_leaves (cell_with u label) refl)

-- ---- a label that is moved

pub moved_checks : (t : Bool) (o : Option ℕ) → (if t then Some (codes "target") else option_map two_digits o) ≡ None → o ≡ None
moved_checks true o is = cc is
moved_checks false None is = refl
moved_checks false (Some rule) is = cc is

-- what is moved of a label: a whole key
record IsMovedKey (s : State) (label : List ℕ) : Type 0 where
  key : Denoted
  is : key_of_label s label ≡ Some key
  part : is_part_of key.clear.vector ≡ false

moved_key : (s : State) (label : List ℕ) (o : Option Denoted) → key_of_label s label ≡ o → first_failing (export_checks o) ≡ None → IsMovedKey s label
moved_key s label None is passes = cc passes
moved_key s label (Some key) is passes = record { key = key; is = is; part = no_part (is_part_of key.clear.vector) (not (is_exportable key.clear.vector)) passes }
  where
    no_part : (part shut : Bool) → first_failing (check 17 part ∷ check 21 shut ∷ []) ≡ None → part ≡ false
    no_part true shut same = cc same
    no_part false shut same = refl

-- ---- the two lines

module _ (s : State) (w : Move) (t u : State) (random label : List ℕ) (p : IsPermittedMove s w) (r : Receives s w t) (ready : IsReady w t u) where
  pub create_step : IsLabel label
      → ((line_outcome u random (create_line w label)).state ≡ record u { labels = after_create label u.labels })
      × ((line_outcome u random (create_line w label)).random ≡ random)
  create_step well = creates w t u random label p.role p.transport ready r.points r.role r.permits well

  pub import_step : IsMovedLabel s w label
      → ((line_outcome u random (import_line w (token_of_label s w label) label)).state
      ≡ record u { labels = after_import label (as_current (clear_of s label)) u.labels })
      × ((line_outcome u random (import_line w (token_of_label s w label) label)).random ≡ random)
  import_step moved =
      let m : IsMovedKey s label = moved_key s label (key_of_label s label) refl (moved_checks (bytes_eq label w.transport_there) _ moved.free) in
      let clear : clear_of s label ≡ m.key.clear = ap (λ (k : Option Denoted). (or_no_key k).clear) m.is in
      let well : IsLabel label = label_well s p.store_here label moved.cell p.stands.store moved.held in
      imports w t u random label p.role p.transport ready r.points r.role r.permits well r.transport r.held
      (label_full t r.module_there r.store_there w.transport_there r.transport r.stands r.held) r.imports r.whole
      (clear_of s w.transport).key r.shared (clear_of s label)
      (subst IsWhole (sym clear) (label_whole s p.module_here p.store_here label m.key p.stands m.is))
      (ap (λ (c : ClearKey). is_part_of c.vector) clear ∙ m.part)
