-- What CSNBKEX says of a label's key under the transport key of a move: it is refused by the rule that keeps the label back,
-- and its token is the one that the move's file has.
use Rattle.std.proofs.Common.{◌≡◌, ℕ, Bool, true, List, [], ◌∷◌, ◌++◌, Option, None, Some, refl, sym, ap, ◌∙◌, codes, bit_or}
use Rattle.std.specs.Prelude.{is_none, not}
use Rattle.std.specs.Option.{option_map}
use Rattle.std.specs.Str.{bytes_eq}
use Rattle.cca_roles.specs.Names.{IsLabel}
use Rattle.cca_roles.specs.Points.{includes}
use Rattle.cca_roles.specs.Roles.{points_of}
use Rattle.cca_vectors.specs.Checks.{Check, check, first_failing}
use Rattle.cca_vectors.specs.Classes.{class_of}
use Rattle.cca_vectors.specs.declared.key_class.Class.TheVariants.{Exporter}
use Rattle.cca_vectors.specs.declared.key_usage.Usage.TheVariants.{Transport}
use Rattle.cca_vectors.proofs.Judging.{none_in_first, passed_over, passes, passes_first, passes_rest}
use Rattle.record_bodies.specs.Labels.{is_label}
use Rattle.key_tokens.specs.Denotes.{ClearKey, Denoted}
use Rattle.key_transport.specs.Tokens.{external_token}
use Rattle.line_service.specs.Replies.{Done, Hex}
use Rattle.store_move.specs.Exports.{export_checks, exporter}
use Rattle.verb_rules.specs.KeyChecks.{use_checks}
use Rattle.verb_rules.proofs.NeedLemmas.{every_has}
use Rattle.verb_script.specs.Named.{label_named}
use Rattle.cca_machine.specs.Act.{or_act, performed, token_out}
use Rattle.cca_machine.specs.Keys.{any_old, cell_with, key_in_field, key_named, key_of_label, key_of_request, or_no_key, warning}
use Rattle.cca_machine.specs.Operands.{exported_key, listed, operands, transport_key}
use Rattle.cca_machine.specs.Points.{point}
use Rattle.cca_machine.specs.State.{State}
use Rattle.cca_machine.specs.Verdict.{Refusal, key_questions, lacks, or_refused, or_then, record_checks, refusal, verdict}
use Rattle.store_unload.specs.Moves.{clear_of, role_checks, token_of_label}
use Rattle.command_words.specs.declared.moves.Move.{Move}
use Rattle.cca_laws.specs.KeyInParts.{by_label}
use Rattle.cca_laws.specs.Moving.{IsMovedLabel, IsPermittedMove, export_request}
use Rattle.cca_laws.proofs.MoveSteps.{includes_part, moved_checks, named, verdict_is}
use Rattle.cca_laws.proofs.MoveTokens.{label_well}

-- ---- the rules of a request as a whole

-- the points that a move needs
abbrev move_points : ℕ
move_points = bit_or (point (codes "KEX")) (point (codes "KRL"))

-- the points of a move are those of CSNBKEX, and more
fewer_points : (o : Option ℕ) (empty : Bool) → first_failing (check 3 (is_none o) ∷ check 4 (lacks o move_points) ∷ check 5 empty ∷ []) ≡ None
    → first_failing (check 3 (is_none o) ∷ check 4 (lacks o (point (codes "KEX"))) ∷ check 5 empty ∷ []) ≡ None
fewer_points None empty pass = cc pass
fewer_points (Some held) empty pass =
    let all : includes held move_points ≡ true = passes_first 4 (includes held move_points) (check 5 empty ∷ []) pass in
    passes 4 (includes held (point (codes "KEX"))) (check 5 empty ∷ []) (includes_part held move_points (point (codes "KEX")) all refl)
    (passes_rest 4 (includes held move_points) (check 5 empty ∷ []) pass)

-- ---- the rules of its operands

-- what is asked of the key of a label that is exported
abbrev asked_of : Bool → Option ℕ → Option Denoted → List Check
asked_of well cell what =
    check 6 (not well) ∷ check 7 (is_none cell) ∷ check 8 (is_none what) ∷ use_checks exported_key (or_no_key what).clear.vector

-- of a label that is held these are the rules that keep it back
asked_is : (cell : ℕ) (what : Option Denoted) → first_failing (asked_of true (Some cell) what) ≡ first_failing (export_checks what)
asked_is cell None = refl
asked_is cell (Some key) = rw (every_has (class_of key.clear.vector)) refl

-- the verdict on both operands, by the rule that the first one breaks
key_alone : (key transport kept : Option ℕ) → key ≡ kept → transport ≡ None
    → or_refused key (codes "key") (or_refused transport (codes "transport") None) ≡ or_refused kept (codes "key") None
key_alone key transport kept is none =
    ap (λ (o : Option ℕ). or_refused key (codes "key") (or_refused o (codes "transport") None)) none
    ∙ ap (λ (o : Option ℕ). or_refused o (codes "key") None) is

refused_is : (rule : Option ℕ) → or_then (or_refused rule (codes "key") None) None ≡ option_map (λ rule. refusal rule (codes "key")) rule
refused_is None = refl
refused_is (Some rule) = refl

-- ---- CSNBKEX

module _ (s : State) (w : Move) (p : IsPermittedMove s w) where
  abbrev carries : List Check
  carries = record_checks s w.transport ++ use_checks exporter (clear_of s w.transport).vector

  role_passes : first_failing (role_checks s w.role) ≡ None
  role_passes = none_in_first (role_checks s w.role) carries p.permitted

  transport_passes : first_failing carries ≡ None
  transport_passes = sym (passed_over (role_checks s w.role) carries role_passes) ∙ p.permitted

  abbrev behind : List Check
  behind =
      check 7 (is_none (cell_with s w.transport)) ∷ check 8 (is_none (key_of_label s w.transport))
      ∷ use_checks exporter (clear_of s w.transport).vector

  transport_well : IsLabel w.transport
  transport_well = passes_first 6 (is_label w.transport) behind transport_passes

  transport_named : label_named (by_label w.transport) ≡ Some w.transport
  transport_named = named w.transport transport_well

  module _ (label : List ℕ) (cell : ℕ) (held : cell_with s label ≡ Some cell) where
    well : IsLabel label
    well = label_well s p.store_here label cell p.stands.store held

    label_is : label_named (by_label label) ≡ Some label
    label_is = named label well

    key_is : first_failing (key_questions s exported_key (label_named (by_label label)) (by_label label))
        ≡ first_failing (export_checks (key_of_label s label))
    key_is =
        ap (λ (o : Option (List ℕ)). first_failing (key_questions s exported_key o (by_label label))) label_is
        ∙ (ap (λ b. first_failing (asked_of b (cell_with s label) (key_of_label s label))) well
        ∙ (ap (λ (c : Option ℕ). first_failing (asked_of true c (key_of_label s label))) held
        ∙ asked_is cell (key_of_label s label)))

    transport_is : first_failing (key_questions s (transport_key Exporter Transport) (label_named (by_label w.transport)) (by_label w.transport)) ≡ None
    transport_is =
        ap (λ (o : Option (List ℕ)). first_failing (key_questions s (transport_key Exporter Transport) o (by_label w.transport))) transport_named
        ∙ transport_passes

    -- it is refused by the rule that keeps the label back
    pub refused_as_kept : (random : List ℕ) → verdict s random (export_request w label)
        ≡ option_map (λ rule. refusal rule (codes "key")) (first_failing (export_checks (key_of_label s label)))
    refused_as_kept random =
        verdict_is s random (export_request w label) (or_refused (first_failing (export_checks (key_of_label s label))) (codes "key") None) refl
        (fewer_points (points_of w.role s.roles) (is_none s.registers.current) role_passes)
        (key_alone _ _ _ key_is transport_is)
        ∙ refused_is (first_failing (export_checks (key_of_label s label)))

    -- the two keys of its token
    key_clear : key_of_request s (export_request w label) ≡ clear_of s label
    key_clear = ap (λ (o : Option (List ℕ)). (or_no_key (key_named s o (by_label label))).clear) label_is

    transport_clear : key_in_field s (export_request w label) (codes "transport") ≡ clear_of s w.transport
    transport_clear = ap (λ (o : Option (List ℕ)). (or_no_key (key_named s o (by_label w.transport))).clear) transport_named

    token_is : token_out s (export_request w label) (codes "transport") (key_of_request s (export_request w label)) ≡ token_of_label s w label
    token_is =
        ap (λ (k : ClearKey). external_token k.key (key_of_request s (export_request w label))) transport_clear
        ∙ ap (external_token (clear_of s w.transport).key) key_clear

  -- the reply for a label that is moved
  pub replied : (drawn label : List ℕ) → IsMovedLabel s w label
      → (performed s drawn (export_request w label)).reply
      ≡ Done (Hex (codes "token") (token_of_label s w label) ∷ warning (any_old s (listed (operands (export_request w label)))))
  unfolding performed
  replied drawn label moved =
      let free : first_failing (export_checks (key_of_label s label)) ≡ None = moved_checks (bytes_eq label w.transport_there) _ moved.free in
      let permitted : verdict s drawn (export_request w label) ≡ None =
      refused_as_kept label moved.cell moved.held drawn ∙ ap (option_map (λ rule. refusal rule (codes "key"))) free in
      ap (λ (v : Option Refusal). (or_act v s drawn (export_request w label)).reply) permitted
      ∙ ap (λ bytes. Done (Hex (codes "token") bytes ∷ warning (any_old s (listed (operands (export_request w label))))))
      (token_is label moved.cell moved.held)
