-- How the entry of a request comes from that of a line that is none, field by field.
use Rattle.std.proofs.Common.{◌≡◌, ◌∙◌, ℕ, ◌<◌, inl, inr, true, List, [], length, codes, Option, None, Some, refl, ap, arith}
use Rattle.std.specs.Prelude.{◌⊎◌, unwrap_or}
use Rattle.std.specs.List.{list_all}
use Rattle.std.proofs.lemmas.List.Sums.{AllPass-from_list_all}
use Rattle.cca_roles.specs.Characters.{is_letter}
use Rattle.cca_roles.specs.Names.{IsLabel, IsRoleName}
use Rattle.verb_script.specs.Grammar.{Request, row_of, value_of}
use Rattle.verb_script.specs.Parts.{first_label}
use Rattle.audit_trail.specs.Entries.{IsEntry, IsVerb, filled}
use Rattle.audit_trail.specs.declared.entries.Entry.{Entry}
use Rattle.audited_service.specs.LineEntries.{entry_with}

abbrev entry_from : ℕ → List ℕ → List ℕ → List ℕ → ℕ → Entry
entry_from rule role verb label label_length = record { rule = rule; role = role; verb = verb; label = label; label_length = label_length }

verb_word : (word : List ℕ) → list_all is_letter word ≡ true → (length word ≡ 7) ⊎ (length word ≡ 10) → IsVerb word
verb_word word letters (inl short) = record { some = omega (arith, short); most = omega (arith, short); letters = AllPass-from_list_all is_letter word letters }
verb_word word letters (inr long) = record { some = omega (arith, long); most = omega (arith, long); letters = AllPass-from_list_all is_letter word letters }

module _ (bare : Entry) (rule : ℕ) (is : bare ≡ entry_with rule None) (r : Request) (role verb role_field verb_field : List ℕ)
    (role_put : role_field ≡ filled (length bare.role) role) (verb_put : verb_field ≡ filled (length bare.verb) verb) where
  role_is : role_field ≡ filled 8 role
  role_is = role_put ∙ ap (λ (e : Entry). filled (length e.role) role) is

  verb_is : verb_field ≡ filled 10 verb
  verb_is = verb_put ∙ ap (λ (e : Entry). filled (length e.verb) verb) is

  module _ (role_read : role ≡ value_of r (codes "role")) (verb_read : verb ≡ (row_of r.name).verb) where
    -- the fields, with a label and its length
    with_field : (label : List ℕ) (first : Option (List ℕ)) → first ≡ first_label r → label ≡ unwrap_or first []
        → entry_from rule role_field verb_field (filled 64 label) (length label) ≡ entry_with rule (Some r)
    with_field label first first_is label_is =
        let label_read : label ≡ unwrap_or (first_label r) [] = label_is ∙ ap (λ (o : Option (List ℕ)). unwrap_or o []) first_is in
        ap (λ (f : List ℕ). entry_from rule f verb_field (filled 64 label) (length label)) (role_is ∙ ap (λ (t : List ℕ). filled 8 t) role_read)
        ∙ ap (λ (f : List ℕ). entry_from rule (filled 8 (value_of r (codes "role"))) f (filled 64 label) (length label)) (verb_is ∙ ap (λ (t : List ℕ). filled 10 t) verb_read)
        ∙ ap (λ (t : List ℕ). entry_from rule (filled 8 (value_of r (codes "role"))) (filled 10 (row_of r.name).verb) (filled 64 t) (length t)) label_read

    pub with_label : (label label_field : List ℕ) → Some label ≡ first_label r → label_field ≡ filled (length bare.label) label
        → entry_from bare.rule role_field verb_field label_field (length label) ≡ entry_with rule (Some r)
    with_label label label_field first_is label_put =
        ap (λ (n : ℕ). entry_from n role_field verb_field label_field (length label)) (ap (λ (e : Entry). e.rule) is)
        ∙ ap (λ (f : List ℕ). entry_from rule role_field verb_field f (length label)) (label_put ∙ ap (λ (e : Entry). filled (length e.label) label) is)
        ∙ with_field label (Some label) first_is refl

    pub without_label : None ≡ first_label r → entry_from bare.rule role_field verb_field bare.label bare.label_length ≡ entry_with rule (Some r)
    without_label first_is =
        ap (λ (e : Entry). entry_from e.rule role_field verb_field e.label e.label_length) is ∙ with_field [] None first_is refl

  module _ (rule_low : bare.rule < 100) (name : IsRoleName role) (letters : list_all is_letter verb ≡ true) (size : (length verb ≡ 7) ⊎ (length verb ≡ 10)) where
    pub whole_labelled : (label label_field : List ℕ) → IsLabel label → label_field ≡ filled (length bare.label) label
        → IsEntry (entry_from bare.rule role_field verb_field label_field (length label))
    whole_labelled label label_field named label_put = record {
      rule = rule_low;
      role = inr (role, name, role_is);
      verb = inr (verb, verb_word verb letters size, verb_is);
      label = inr (label, named, refl, label_put ∙ ap (λ (e : Entry). filled (length e.label) label) is);
    }

    pub whole_unlabelled : IsEntry (entry_from bare.rule role_field verb_field bare.label bare.label_length)
    whole_unlabelled = record {
      rule = rule_low;
      role = inr (role, name, role_is);
      verb = inr (verb, verb_word verb letters size, verb_is);
      label = inl (ap (λ (e : Entry). e.label_length) is, ap (λ (e : Entry). e.label) is);
    }
