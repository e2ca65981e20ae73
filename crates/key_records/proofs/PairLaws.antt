-- A first token under the current master key, and a second one under a full new register.
use Rattle.std.proofs.Common.{◌≡◌, ◌↔◌, ◌-◌, ℕ, Bool, true, false, List, Option, None, Some, refl, sym, ap, ◌∙◌}
use Rattle.std.specs.Prelude.{IsTrue, is_some, option_map, if◌then◌else◌}
use Rattle.std.proofs.lemmas.Slice.Eq.{bytes_eq-Decides}
use Rattle.cca_roles.proofs.DirectoryLaws.{none_some}
use Rattle.key_cells.specs.Bench.{Bench}
use Rattle.key_tokens.specs.Denotes.{ClearKey, MasterKey, MasterKeys, Denoted, denoted}
use Rattle.key_tokens.specs.Fields.{pattern_of_token, token_of}
use Rattle.key_tokens.specs.declared.key_token.Age.{Age}
use Rattle.key_tokens.specs.declared.key_token.Age.TheVariants.{Current, Old}
use Rattle.key_tokens.specs.declared.key_token.Token.{Token}
use Rattle.master_registers.specs.Loaded.{Loaded, has_pattern}
use Rattle.master_registers.specs.Masters.{NewRegister, Empty, Partial, Full, Masters, new_bytes}
use Rattle.master_registers.specs.declared.patterns.Pattern.{Pattern}
use Rattle.master_registers.specs.declared.registers.Registers.{Registers}
use Rattle.multi_encipher.specs.Seals.{seal}
use Rattle.multi_encipher.specs.declared.halves.Sealed.{Sealed}
use Rattle.verb_rules.specs.KeyChecks.{register_with}
use Rattle.verb_rules.specs.Keys.{keys_of, new_key, opened, opened_key}
use Rattle.verb_rules.proofs.DenotedLemmas.{denoted_opened, judged_with}
use Rattle.record_bodies.specs.Entries.{pattern_for, pattern_or, pattern_ahead}
use Rattle.record_bodies.specs.Opening.{pattern_coming}
use Rattle.record_bodies.specs.RecordBody.{kept, second_of, second_token, is_turned, what_of, ahead_of, both_kind, IsFirst, IsPair}
use Rattle.record_bodies.specs.declared.rows.Row.{Row}
use Rattle.record_bodies.specs.declared.rows.Second.{Second}
use Rattle.record_bodies.proofs.BodyLaws.{what_turned, ahead_turned}
use Rattle.record_bodies.proofs.KeptLaws.{denoted_pattern, kept_with_flag, pattern}
use Rattle.record_bodies.proofs.SecondLaws.{same_second}
use Rattle.key_records.proofs.ReadLaws.{some_mapped}
use Rattle.std.proofs.lemmas.Option.{same_Some}

has_is : (o : Option Pattern) (bytes : List ℕ) → has_pattern o bytes ≡ true → o ≡ Some (pattern bytes)
has_is None bytes is = let no : false ≡ true = is in absurd (cc)
has_is (Some p) bytes is = ap (λ b. Some (pattern b)) (sym ((bytes_eq-Decides bytes p.bytes).0 is))

is_has : (o : Option Pattern) (bytes : List ℕ) → o ≡ Some (pattern bytes) → has_pattern o bytes ≡ true
is_has o bytes is = ap (λ x. has_pattern x bytes) is ∙ (bytes_eq-Decides bytes bytes).1 refl

current_of : (first second : Bool) → (if first then Some Current else (if second then Some Old else None)) ≡ Some Current → first ≡ true
current_of true second is = refl
current_of false true is = let wrong : Some Old ≡ Some Current = is in absurd (cc)
current_of false false is = let wrong : None ≡ Some Current = is in absurd (cc)

age_of_key : (bench : Bench) (token : Token) (age : Option Age) (key : Denoted) → opened_key bench (judged_with token age) ≡ Some key → age ≡ Some key.age
age_of_key bench token None key is = absurd (none_some key is)
age_of_key bench token (Some a) key is = ap (λ (d : Denoted). Some d.age) (same_Some _ _ is)

-- a token that was read and breaks no rule, with flag c0
module _ (m : Masters) (held : Registers) (bench : Bench) (token : List ℕ) (loaded : Loaded m held bench) (first : IsFirst token) where
  abbrev mine : List ℕ
  mine = pattern_of_token token

  kept_opened : kept (keys_of m) token ≡ opened_key bench (judged_with (token_of token) (register_with held mine))
  kept_opened =
      kept_with_flag (keys_of m) token first.flag
      ∙ denoted_opened m held bench token (judged_with (token_of token) (register_with held mine)) loaded first.sound refl

  -- it is under the current register where it has its pattern, and there alone
  pub under_current : (key : Denoted) → kept (keys_of m) token ≡ Some key → key.age ≡ Current → held.current_pattern ≡ Some (pattern mine)
  under_current key is current =
      has_is held.current_pattern mine
      (current_of (has_pattern held.current_pattern mine) (has_pattern held.old_pattern mine)
      (age_of_key bench (token_of token) (register_with held mine) key (sym kept_opened ∙ is) ∙ ap (λ a. Some a) current))

  pub current_key : held.current_pattern ≡ Some (pattern mine) → kept (keys_of m) token ≡ Some (record { clear = opened bench (judged_with (token_of token) (Some Current)); age = Current })
  current_key is =
      kept_opened
      ∙ ap (λ b. opened_key bench (judged_with (token_of token) (if b then Some Current else (if has_pattern held.old_pattern mine then Some Old else None)))) (is_has held.current_pattern mine is)

  -- the row of a label that is ahead
  pub pair_pattern : (second : Second) → IsPair (keys_of m) token second → held.current_pattern ≡ option_map (pattern_for (keys_of m)) (kept (keys_of m) token)
  pair_pattern second pair =
      let denotes : denoted (keys_of m) token ≡ Some pair.key = sym (kept_with_flag (keys_of m) token first.flag) ∙ pair.is_kept in
      under_current pair.key pair.is_kept pair.current
      ∙ ap (λ p. Some p) (sym (denoted_pattern (keys_of m) token pair.key denotes))
      ∙ ap (option_map (pattern_for (keys_of m))) (sym pair.is_kept)

  pub pair_row : (label : List ℕ) (second : Second) → IsPair (keys_of m) token second → is_turned (keys_of m) token second ≡ false
      → ◌≡◌ {A = Option Row} (Some (record { label = label; pattern = held.current_pattern; ahead = Some second.pattern }))
      (Some (record { label = label; pattern = option_map (pattern_for (keys_of m)) (what_of (keys_of m) both_kind token second); ahead = pattern_ahead (keys_of m) (ahead_of (keys_of m) both_kind token second) }))
  pair_row label second pair isnt =
      let patterns : held.current_pattern ≡ option_map (pattern_for (keys_of m)) (what_of (keys_of m) both_kind token second) =
      pair_pattern second pair ∙ ap (option_map (pattern_for (keys_of m))) (sym (what_turned (keys_of m) token second false isnt)) in
      let aheads : Some second.pattern ≡ pattern_ahead (keys_of m) (ahead_of (keys_of m) both_kind token second) =
      ap (λ (s : Second). Some s.pattern) pair.sealed ∙ ap (λ k. Some (pattern_or k)) (sym pair.is_coming)
      ∙ ap (pattern_ahead (keys_of m)) (sym (ahead_turned (keys_of m) token second false isnt)) in
      ap (λ p. Some (row label p (Some second.pattern))) patterns ∙ ap (λ p. Some (row label (option_map (pattern_for (keys_of m)) (what_of (keys_of m) both_kind token second)) p)) aheads
    where
      row : List ℕ → Option Pattern → Option Pattern → Row
      row l p a = record { label = l; pattern = p; ahead = a }

-- the row of a label that is under its second token
module _ (masters : MasterKeys) (token under : List ℕ) (second : Second) (found : under ≡ second_token token second) where
  pub turned_as : (pattern : Option Pattern) → pattern ≡ option_map (pattern_for masters) (kept masters under)
      → is_turned masters token second ≡ is_some pattern
  turned_as pattern is =
      ap (λ t. is_some (kept masters t)) (sym found) ∙ sym (some_mapped (pattern_for masters) (kept masters under)) ∙ ap (λ o. is_some o) (sym is)

  pub turned_row : (label : List ℕ) (pattern : Pattern) → Some pattern ≡ option_map (pattern_for masters) (kept masters under)
      → ◌≡◌ {A = Option Row} (Some (record { label = label; pattern = Some pattern; ahead = None }))
      (Some (record { label = label; pattern = option_map (pattern_for masters) (what_of masters both_kind token second); ahead = pattern_ahead masters (ahead_of masters both_kind token second) }))
  turned_row label pattern is =
      let turned : is_turned masters token second ≡ true = turned_as (Some pattern) is in
      let patterns : Some pattern ≡ option_map (pattern_for masters) (what_of masters both_kind token second) =
      is ∙ ap (λ t. option_map (pattern_for masters) (kept masters t)) found
      ∙ ap (option_map (pattern_for masters)) (sym (what_turned masters token second true turned)) in
      let aheads : None ≡ pattern_ahead masters (ahead_of masters both_kind token second) =
      ap (pattern_ahead masters) (sym (ahead_turned masters token second true turned)) in
      ap (λ p. Some (row label p None)) patterns ∙ ap (λ p. Some (row label (option_map (pattern_for masters) (what_of masters both_kind token second)) p)) aheads
    where
      row : List ℕ → Option Pattern → Option Pattern → Row
      row l p a = record { label = l; pattern = p; ahead = a }

-- a full new register, by its pattern
pub coming_is : (m : Masters) (held : Registers) (bench : Bench) (p : Pattern) → Loaded m held bench → pattern_coming (keys_of m) ≡ Some p → (keys_of m).coming ≡ Some (record { key = bench.coming; pattern = p.bytes })
coming_is m held bench p loaded is = by_coming m.coming loaded.placed.coming is
  where
    by_coming : (coming : NewRegister) → bench.coming ≡ new_bytes coming → option_map (λ (k : MasterKey). pattern k.pattern) (new_key coming) ≡ Some p → new_key coming ≡ Some (record { key = bench.coming; pattern = p.bytes })
    by_coming Empty placed is = absurd (none_some p is)
    by_coming (Partial bytes) placed is = absurd (none_some p is)
    by_coming (Full bytes) placed is =
        ap (λ x. Some (record { key = bytes; pattern = x })) (ap (λ (q : Pattern). q.bytes) (same_Some _ _ is))
        ∙ ap (λ k. Some (record { key = k; pattern = p.bytes })) (sym placed)

-- the second token, compared with the key of the first sealed under the new register
module _ (m : Masters) (held : Registers) (bench : Bench) (token : List ℕ) (second : Second) (sealed : Sealed) (loaded : Loaded m held bench) (first : IsFirst token)
    (current : held.current_pattern ≡ Some (pattern (pattern_of_token token))) (coming : pattern_coming (keys_of m) ≡ Some second.pattern) where
  abbrev clear : ClearKey
  clear = opened bench (judged_with (token_of token) (Some Current))

  abbrev master : MasterKey
  master = record { key = bench.coming; pattern = second.pattern.bytes }

  pub pair_of : sealed ≡ seal bench.coming clear.vector clear.key → sealed ≡ second.sealed → IsPair (keys_of m) token second
  pair_of is same = record {
    key = record { clear = clear; age = Current };
    is_kept = current_key m held bench token loaded first current;
    current = refl;
    coming = master;
    is_coming = coming_is m held bench second.pattern loaded coming;
    sealed = same_second second (second_of master clear) refl (ap (λ (s : Sealed). s.left) (sym same ∙ is)) (ap (λ (s : Sealed). s.right) (sym same ∙ is));
  }

  pub of_pair : sealed ≡ seal bench.coming clear.vector clear.key → IsPair (keys_of m) token second → sealed ≡ second.sealed
  of_pair is pair =
      let key : pair.key ≡ record { clear = clear; age = Current } = same_Some _ _ (sym pair.is_kept ∙ current_key m held bench token loaded first current) in
      let keys : pair.coming ≡ master = same_Some _ _ (sym pair.is_coming ∙ coming_is m held bench second.pattern loaded coming) in
      is
      ∙ ap (λ (c : ClearKey). seal bench.coming c.vector c.key) (ap (λ (k : Denoted). k.clear) (sym key))
      ∙ ap (λ (k : MasterKey). seal k.key pair.key.clear.vector pair.key.clear.key) (sym keys)
      ∙ ap (λ (s : Second). s.sealed) (sym pair.sealed)

-- where they are no pair
pub no_pair : {P : Type 0} → (P → ⊥) → IsTrue false ↔ P
no_pair none = (λ (is : false ≡ true). absurd (cc is), λ p. absurd (none p))

pub pair_coming : (masters : MasterKeys) (token : List ℕ) (second : Second) → IsPair masters token second → pattern_coming masters ≡ Some second.pattern
pair_coming masters token second pair =
    ap (option_map (λ (k : MasterKey). pattern k.pattern)) pair.is_coming ∙ ap (λ (s : Second). Some s.pattern) (sym pair.sealed)
