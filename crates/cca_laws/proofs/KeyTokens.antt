-- The internal token that is written for a key stands for it.
use Rattle.std.proofs.Common.{◌≡◌, ⊎_elim, ℕ, ◌<◌, ◌≤◌, Bool, true, false, List, [], length, get_or, Option, None, Some, refl, sym, ap, subst, ◌∙◌, arith}
use Rattle.std.specs.Prelude.{if◌then◌else◌, is_none}
use Rattle.std.specs.Str.{bytes_eq}
use Rattle.std.proofs.lemmas.Bool.{cases_lt}
use Rattle.std.proofs.lemmas.List.{get_or_past}
use Rattle.hex.specs.Hex.{IsBytes}
use Rattle.key_cells.specs.Bytes.{AreBytes}
use Rattle.cca_vectors.specs.Checks.{first_failing}
use Rattle.key_tokens.specs.Denotes.{ClearKey, Denoted, HaveDistinctPatterns, MasterKey, MasterKeys, clear_of, denoted, denoted_or, is_token}
use Rattle.key_tokens.specs.Fields.{pattern_of_token, token_of}
use Rattle.key_tokens.specs.Layout.{IsToken}
use Rattle.key_tokens.specs.TokenChecks.{token_checks}
use Rattle.key_tokens.specs.declared.key_token.Age.TheVariants.{Current, Old}
use Rattle.key_tokens.specs.declared.key_token.Asked.TheVariants as asked
use Rattle.key_tokens.specs.declared.key_token.Kind.TheVariants.{Internal}
use Rattle.key_tokens.specs.declared.key_token.Token.{Token}
use Rattle.key_tokens.proofs.DenotedKeys.{denotes_one}
use Rattle.key_tokens.proofs.Layouts.{none_from_token, token_is}
use Rattle.key_tokens.proofs.Written.{made-token}
use Rattle.key_transport.specs.Tokens.{as_current}
use Rattle.master_registers.specs.Masters.{Masters, pattern_of_master}
use Rattle.multi_encipher.specs.Seals.{seal}
use Rattle.multi_encipher.proofs.SealLaws.{one_to_one}
use Rattle.verb_rules.specs.Keys.{keys_of, master_key, sealed_token, token_for}
use Rattle.cca_laws.proofs.ByteLaws.{Bytes, bytes_token}
use Rattle.cca_laws.proofs.MoveTokens.{IsWhole}
use Rattle.cca_laws.proofs.TokenVectors.{pattern_long}

-- one master key alone
abbrev alone : MasterKey → MasterKeys
alone master = record { current = Some master; former = None; coming = None }

alone_apart : (master : MasterKey) → HaveDistinctPatterns (alone master)
alone_apart master = λ current former is other. cc

-- what a token stands for under the current master key, it stands for beside any other
beside : (master : MasterKey) (former : Option Denoted) (bytes : List ℕ) (clear : ClearKey)
    → denoted_or (Some master) Current bytes None ≡ Some (as_current clear) → denoted_or (Some master) Current bytes former ≡ Some (as_current clear)
beside master former bytes clear is = by_test (bytes_eq (pattern_of_token bytes) master.pattern) is
  where
    by_test : (t : Bool) → (if t then Some (record { clear = clear_of master.key bytes; age = Current }) else None) ≡ Some (as_current clear)
        → (if t then Some (record { clear = clear_of master.key bytes; age = Current }) else former) ≡ Some (as_current clear)
    by_test true same = same
    by_test false same = cc same

among : (master : MasterKey) (m : MasterKeys) (bytes : List ℕ) (clear : ClearKey) → m.current ≡ Some master → denoted (alone master) bytes ≡ Some (as_current clear)
    → denoted m bytes ≡ Some (as_current clear)
unfolding denoted
among master m bytes clear current is =
    ap (λ (o : Option MasterKey). if is_token asked.Internal bytes then denoted_or o Current bytes (denoted_or m.former Old bytes None) else None) current
    ∙ by_test (is_token asked.Internal bytes) is
  where
    by_test : (t : Bool) → (if t then denoted_or (Some master) Current bytes None else None) ≡ Some (as_current clear)
        → (if t then denoted_or (Some master) Current bytes (denoted_or m.former Old bytes None) else None) ≡ Some (as_current clear)
    by_test true same = beside master (denoted_or m.former Old bytes None) bytes clear same
    by_test false same = cc same

module _ (m : Masters) (clear : ClearKey) (is : IsWhole clear) where
  module _ (bytes : List ℕ) (current : m.current ≡ Some bytes) where
    abbrev token_in : Token
    token_in = record { kind = Internal; pattern = pattern_of_master bytes; sealed = seal bytes clear.vector clear.key; vector = clear.vector }

    sealed_is : token_for (keys_of m) (as_current clear) ≡ sealed_token (master_key (Some bytes)) clear
    unfolding token_for
    sealed_is = ap (λ (o : Option (List ℕ)). sealed_token (master_key o) clear) current

    in_token : IsToken (token_for (keys_of m) (as_current clear)) token_in
    in_token =
        let halves = (one_to_one bytes clear.vector).sealed clear.key is.key in
        subst (λ t. IsToken t token_in) (sym sealed_is)
        (made-token token_in (pattern_long bytes) halves.left.size halves.right.size is.vector tt halves.single)

    stands : denoted (keys_of m) (token_for (keys_of m) (as_current clear)) ≡ Some (as_current clear)
    stands =
        let master : MasterKey = record { key = bytes; pattern = pattern_of_master bytes } in
        let text : List ℕ = token_for (keys_of m) (as_current clear) in
        let are : AreBytes 64 text = record { size = in_token.whole; each = bytes_token clear is.vector.bytes m Current } in
        among master (keys_of m) text clear (ap master_key current)
        ((denotes_one (alone master) [] text are (alone_apart master)).internal clear Current (master, (refl, record { key = is.key; token = in_token })))

  -- what it stands for, that it breaks no rule of an internal token, and its control vector
  pub record IsWritten : Type 0 where
    pub stands : denoted (keys_of m) (token_for (keys_of m) (as_current clear)) ≡ Some (as_current clear)
    pub passes : first_failing (token_checks asked.Internal (token_for (keys_of m) (as_current clear))) ≡ None
    pub vector : (token_of (token_for (keys_of m) (as_current clear))).vector ≡ clear.vector

  -- where the current register is full
  pub written : is_none m.current ≡ false → IsWritten
  written full = by_register m.current refl full
    where
      are : Bytes (token_for (keys_of m) (as_current clear))
      are = bytes_token clear is.vector.bytes m Current

      fits : length (token_for (keys_of m) (as_current clear)) ≡ 64 → IsBytes (token_for (keys_of m) (as_current clear))
      fits long k = ⊎_elim
          (λ (within : k < 64). are k 0 (omega (arith, within, long)))
          (λ (past : 64 ≤ k). let zero : get_or (token_for (keys_of m) (as_current clear)) k 0 ≡ 0 = get_or_past (token_for (keys_of m) (as_current clear)) k 0 (omega (arith, past, long)) in omega arith)
          (cases_lt k 64)

      by_register : (o : Option (List ℕ)) → m.current ≡ o → is_none o ≡ false → IsWritten
      by_register None same none = cc none
      by_register (Some bytes) same some =
          let token = in_token bytes same in
          record {
            stands = stands bytes same;
            passes = none_from_token asked.Internal (token_for (keys_of m) (as_current clear)) token.whole (fits token.whole) (token_in bytes same) token refl;
            vector = ap (λ (t : Token). t.vector) (token_is (token_for (keys_of m) (as_current clear)) token.whole (token_in bytes same) token);
          }
