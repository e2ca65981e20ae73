-- The labels of a store whose registers change.
use Rattle.std.proofs.Common.{◌≡◌, inr, ⊎_elim, ℕ, zero, suc, Bool, true, false, List, [], ◌∷◌, length, map, Option, None, Some, refl, sym, ap, subst, ◌∙◌, ◌<◌, arith}
use Rattle.std.specs.Prelude.{slice_index, ◌||◌, ◌==◌, if◌then◌else◌}
use Rattle.std.proofs.lemmas.Bool.{cases_eq}
use Rattle.std.proofs.lemmas.List.{ext_get_or, get_or-map}
use Rattle.key_cells.specs.Bytes.{AreBytes, IsZero}
use Rattle.cca_roles.proofs.DirectoryLaws.{none_some}
use Rattle.device_cells.specs.Cells.{body}
use Rattle.key_tokens.specs.Denotes.{ClearKey, Denoted, Denotes, HaveDistinctPatterns, MasterKey, MasterKeys, denoted, denoted_or, is_token}
use Rattle.key_tokens.specs.Fields.{vector_bytes_of}
use Rattle.key_tokens.specs.Layout.{IsToken, made}
use Rattle.key_tokens.specs.declared.key_token.Age.{Age}
use Rattle.key_tokens.specs.declared.key_token.Age.TheVariants.{Current, Old}
use Rattle.key_tokens.specs.declared.key_token.Asked.TheVariants as asked
use Rattle.key_tokens.specs.declared.key_token.Token.{Token}
use Rattle.key_tokens.proofs.DenotedKeys.{denotes_one}
use Rattle.key_tokens.proofs.Written.{flag-made, made-token}
use Rattle.record_bodies.specs.Ages.{has_old_key, is_old_entry, any_old, is_ahead_entry, any_ahead_entry}
use Rattle.record_bodies.specs.Directory.{AreApart}
use Rattle.record_bodies.specs.Entries.{Entry, directory, entry_label, remembered, pattern_for, pattern_or, turned}
use Rattle.record_bodies.specs.RecordBody.{kept, second_token, second_fields, HasToken, IsAhead, ReadsEntry, ReadsKey, ReadsWhat}
use Rattle.record_bodies.specs.StoreStands.{StandsForLabels, KeepsLabels, Agrees, entry_at}
use Rattle.record_bodies.specs.Turning.{aged_entry, aged, after_turn}
use Rattle.record_bodies.specs.Labels.{IsLabel}
use Rattle.record_bodies.specs.Written.{token_under, token_bytes}
use Rattle.record_bodies.specs.declared.rows.Row.{Row}
use Rattle.record_bodies.specs.declared.rows.Second.{Second}
use Rattle.record_bodies.proofs.BodyLaws.{entry_with}
use Rattle.record_bodies.proofs.OneBody.{kept_one}
use Rattle.record_bodies.proofs.KeptLaws.{kept_flag, kept_with_flag, kept_first, denoted_vector}
use Rattle.record_bodies.proofs.SecondLaws.{second_bytes, sealed_single}

abbrev key_of_age : ClearKey → Age → Denoted
key_of_age clear age = record { clear = clear; age = age }

kept_denoted : (masters : MasterKeys) (token : List ℕ) (key : Denoted) → kept masters token ≡ Some key → (slice_index token 6 ≡ 0xc0) × (denoted masters token ≡ Some key)
kept_denoted masters token key is = ⊎_elim
    (λ (flag : slice_index token 6 ≡ 0xc0). (flag, sym (kept_with_flag masters token flag) ∙ is))
    (λ (other : slice_index token 6 ≡ 0xc0 → ⊥). absurd (none_some key (sym (kept_flag masters token other) ∙ is)))
    (cases_eq (slice_index token 6) 0xc0)

neither : (a b : Bool) → (a || b) ≡ false → (a ≡ false) × (b ≡ false)
neither false b is = (refl, is)
neither true b is = let no : true ≡ false = is in absurd (cc)

-- ---- SET

module _ (masters : MasterKeys) (apart : HaveDistinctPatterns masters) (next_apart : HaveDistinctPatterns (after_turn masters)) where
  -- a token under the current master key is one under the old one afterwards
  token_ages : (token : List ℕ) (clear : ClearKey) → AreBytes 64 token → kept masters token ≡ Some (key_of_age clear Current) → kept (after_turn masters) token ≡ Some (key_of_age clear Old)
  token_ages token clear are is =
      let both = kept_denoted masters token (key_of_age clear Current) is in
      let denotes : Denotes masters token clear Current = (denotes_one masters [] token are apart).internal_back clear Current both.1 in
      let later : Denotes (after_turn masters) token clear Old = denotes in
      kept_with_flag (after_turn masters) token both.0 ∙ (denotes_one (after_turn masters) [] token are next_apart).internal clear Old later

  -- and a second token is one under the current one
  module _ (bytes label token : List ℕ) (clear : ClearKey) (are : AreBytes 64 token) (is : kept masters token ≡ Some (key_of_age clear Current)) (a : IsAhead masters bytes label token (key_of_age clear Current)) where
    denotes_first : Denotes masters token clear Current
    denotes_first = (denotes_one masters [] token are apart).internal_back clear Current (kept_denoted masters token (key_of_age clear Current) is).1

    abbrev next : List ℕ
    next = second_token token a.second

    fields_are : second_fields token a.second ≡ token_under a.coming clear
    fields_are =
        let vectors : clear.vector ≡ vector_bytes_of token = denoted_vector masters token (key_of_age clear Current) (kept_denoted masters token (key_of_age clear Current) is).1 in
        ap (λ (s : Second). second_fields token s) a.sealed
        ∙ ap (λ v. fields v) (sym vectors)
      where
        fields : List ℕ → Token
        fields v = record { kind = (token_under a.coming clear).kind; pattern = a.coming.pattern; sealed = (token_under a.coming clear).sealed; vector = v }

    next_is : next ≡ made (token_under a.coming clear)
    unfolding second_token
    next_is = ap made fields_are

    next_bytes : AreBytes 64 next
    next_bytes = second_bytes token a.second (kept_first masters token (key_of_age clear Current) are is) a.is_second

    is_next : IsToken next (token_under a.coming clear)
    is_next =
        let first : IsToken token (token_under denotes_first.0 clear) = denotes_first.1.1.token in
        subst (λ (x : List ℕ). IsToken x (token_under a.coming clear)) (sym next_is)
        (made-token (token_under a.coming clear)
        (ap (λ (s : Second). length s.pattern.bytes) (sym a.sealed) ∙ a.is_second.pattern.size)
        (ap (λ (s : Second). length s.sealed.left) (sym a.sealed) ∙ a.is_second.left.size)
        (ap (λ (s : Second). length s.sealed.right) (sym a.sealed) ∙ a.is_second.right.size)
        first.vector tt
        (λ single. subst (λ (s : Second). IsZero s.sealed.right) a.sealed (sealed_single a.coming clear a.second a.sealed single)))

    next_kept : kept (after_turn masters) next ≡ Some (key_of_age clear Current)
    next_kept =
        let later : Denotes (after_turn masters) next clear Current = (a.coming, (a.is_coming, record { key = denotes_first.1.1.key; token = is_next })) in
        kept_with_flag (after_turn masters) next (ap (λ x. slice_index x 6) next_is ∙ flag-made (token_under a.coming clear))
        ∙ (denotes_one (after_turn masters) [] next next_bytes next_apart).internal clear Current later

    next_reads : ReadsKey (after_turn masters) bytes label (key_of_age clear Current) false (Some (token_bytes masters.current clear))
    next_reads = record {
      token = next;
      are = next_bytes;
      is_kept = next_kept;
      body = inr (
        record {
          first = token;
          second = a.second;
          is_first = kept_first masters token (key_of_age clear Current) are is;
          is_second = a.is_second;
          under = refl;
          body = a.body;
        },
        ap (λ t. Some t) (sym (kept_one masters apart token (key_of_age clear Current) are is)),
      );
    }

  -- a label as it is after SET
  abbrev aged_with : List ℕ → Option Denoted → Bool → Option (List ℕ) → Option Entry
  aged_with label what ahead unused = aged_entry masters (Some (entry_with label what ahead unused))

  what_ages : (bytes label : List ℕ) (what : Option Denoted) (ahead : Bool) (unused : Option (List ℕ)) → IsLabel label → has_old_key what ≡ false → ReadsWhat masters bytes label what ahead unused
      → ReadsEntry (after_turn masters) bytes (aged_with label what ahead unused)
  what_ages bytes label None false unused is_label young reads = (is_label, (reads.0, refl, reads.2))
  what_ages bytes label None true unused is_label young reads = let no : true ≡ false = reads.1 in absurd (cc)
  what_ages bytes label (Some key) ahead unused is_label young reads = by_age key.clear key.age ahead young reads.token reads.are reads.is_kept reads.body
    where
      by_age : (clear : ClearKey) (age : Age) (ahead : Bool) → has_old_key (Some (key_of_age clear age)) ≡ false → (token : List ℕ) → AreBytes 64 token → kept masters token ≡ Some (key_of_age clear age)
          → HasToken masters bytes label token (key_of_age clear age) ahead unused → ReadsEntry (after_turn masters) bytes (aged_with label (Some (key_of_age clear age)) ahead unused)
      by_age clear Old ahead young token are is body = let no : true ≡ false = young in absurd (cc)
      by_age clear Current false young token are is body = (is_label, record { token = token; are = are; is_kept = token_ages token clear are is; body = body })
      by_age clear Current true young token are is body = (is_label, next_reads bytes label token clear are is body.0)

  entry_ages : (bytes : List ℕ) (o : Option Entry) → is_old_entry o ≡ false → ReadsEntry masters bytes o → ReadsEntry (after_turn masters) bytes (aged_entry masters o)
  entry_ages bytes None young reads = reads
  entry_ages bytes (Some e) young reads = what_ages bytes e.label e.what e.ahead e.unused reads.0 young reads.1

-- ---- lists of labels

length-mapped : {A B : Type 0} (f : A → B) (s : List A) → length (map f s) ≡ length s
length-mapped f [] = refl
length-mapped f (x ∷ s) = ap suc (length-mapped f s)

module _ (masters : MasterKeys) where
  aged_at : (s : List (Option Entry)) (n : ℕ) → entry_at (aged masters s) n ≡ aged_entry masters (entry_at s n)
  aged_at [] n = refl
  aged_at (e ∷ s) zero = refl
  aged_at (e ∷ s) (suc n) = aged_at s n

  label_ages : (e : Option Entry) → entry_label (aged_entry masters e) ≡ entry_label e
  label_ages None = refl
  label_ages (Some e) = refl

  directory_ages : (s : List (Option Entry)) → directory (aged masters s) ≡ directory s
  directory_ages [] = refl
  directory_ages (e ∷ s) = ap (λ l. l ∷ directory (aged masters s)) (label_ages e) ∙ ap (λ d. entry_label e ∷ d) (directory_ages s)

none_old : (s : List (Option Entry)) (n : ℕ) → any_old s ≡ false → is_old_entry (entry_at s n) ≡ false
none_old [] n none = refl
none_old (e ∷ s) zero none = (neither (is_old_entry e) (any_old s) none).0
none_old (e ∷ s) (suc n) none = none_old s n (neither (is_old_entry e) (any_old s) none).1

none_ahead : (s : List (Option Entry)) (n : ℕ) → any_ahead_entry s ≡ false → is_ahead_entry (entry_at s n) ≡ false
none_ahead [] n none = refl
none_ahead (e ∷ s) zero none = (neither (is_ahead_entry e) (any_ahead_entry s) none).0
none_ahead (e ∷ s) (suc n) none = none_ahead s n (neither (is_ahead_entry e) (any_ahead_entry s) none).1

-- what stands for the labels stands for them after SET, where none of them is under the old master key
pub store_turns : (masters : MasterKeys) → HaveDistinctPatterns masters → HaveDistinctPatterns (after_turn masters) → (image : List ℕ) (s : List (Option Entry)) → any_old s ≡ false
    → StandsForLabels masters image s → StandsForLabels (after_turn masters) image (aged masters s)
store_turns masters apart next_apart image s none stands = record {
  size = length-mapped (aged_entry masters) s ∙ stands.size;
  reads = λ n within. subst (λ (e : Option Entry). ReadsEntry (after_turn masters) (body image n) e) (sym (aged_at masters s n))
      (entry_ages masters apart next_apart (body image n) (entry_at s n) (none_old s n none) (stands.reads n within));
  apart = subst AreApart (sym (directory_ages masters s)) stands.apart;
}

row_turns : (masters : MasterKeys) (bytes : List ℕ) (o : Option Entry) → is_old_entry o ≡ false → ReadsEntry masters bytes o → remembered (after_turn masters) (aged_entry masters o) ≡ turned (remembered masters o)
row_turns masters bytes None young reads = refl
row_turns masters bytes (Some e) young reads = by_what e.what e.ahead young reads.1
  where
    Turns : Option Denoted → Bool → Type 0
    Turns what ahead = remembered (after_turn masters) (aged_entry masters (Some (entry_with e.label what ahead e.unused))) ≡ turned (remembered masters (Some (entry_with e.label what ahead e.unused)))

    by_age : (clear : ClearKey) (age : Age) (ahead : Bool) → has_old_key (Some (key_of_age clear age)) ≡ false → Turns (Some (key_of_age clear age)) ahead
    by_age clear Old ahead young = let no : true ≡ false = young in absurd (cc)
    by_age clear Current false young = refl
    by_age clear Current true young = refl

    by_null : (ahead : Bool) → ahead ≡ false → Turns None ahead
    by_null false is = refl
    by_null true is = let no : true ≡ false = is in absurd (cc)

    by_what : (what : Option Denoted) (ahead : Bool) → has_old_key what ≡ false → ReadsWhat masters bytes e.label what ahead e.unused → Turns what ahead
    by_what None ahead young reads = by_null ahead reads.1
    by_what (Some key) ahead young reads = by_age key.clear key.age ahead young

-- the memory knows them, once it is turned
pub memory_turns : (masters : MasterKeys) (rows : List (Option Row)) (image : List ℕ) (s : List (Option Entry)) → any_old s ≡ false → KeepsLabels masters rows s image
    → Agrees (after_turn masters) (map turned rows) (aged masters s)
memory_turns masters rows image s none keeps =
    ap (map turned) keeps.agrees
    ∙ ext_get_or None (map turned (map (remembered masters) s)) (map (remembered (after_turn masters)) (aged masters s))
    (length-mapped turned (map (remembered masters) s) ∙ length-mapped (remembered masters) s ∙ sym (length-mapped (remembered (after_turn masters)) (aged masters s) ∙ length-mapped (aged_entry masters) s))
    (λ n within.
    let below : n < length s = omega (arith, within, length-mapped turned (map (remembered masters) s), length-mapped (remembered masters) s) in
    let small : n < 1024 = omega (arith, below, keeps.stands.size) in
    get_or-map turned (map (remembered masters) s) n None None (omega (arith, below, length-mapped (remembered masters) s))
    ∙ ap turned (get_or-map (remembered masters) s n None None below)
    ∙ sym (row_turns masters (body image n) (entry_at s n) (none_old s n none) (keeps.stands.reads n small))
    ∙ ap (remembered (after_turn masters)) (sym (aged_at masters s n))
    ∙ sym (get_or-map (remembered (after_turn masters)) (aged masters s) n None None (omega (arith, below, length-mapped (aged_entry masters) s))))

-- ---- a new register that changes, while no label is ahead

module _ (masters next : MasterKeys) (current : next.current ≡ masters.current) (former : next.former ≡ masters.former) where
  same_kept : (token : List ℕ) → kept next token ≡ kept masters token
  unfolding kept denoted
  same_kept token =
      ap (λ (c : Option MasterKey). if slice_index token 6 == 0xc0 then (if is_token asked.Internal token then denoted_or c Current token (denoted_or next.former Old token None) else None) else None) current
      ∙ ap (λ (f : Option MasterKey). if slice_index token 6 == 0xc0 then (if is_token asked.Internal token then denoted_or masters.current Current token (denoted_or f Old token None) else None) else None) former

  entry_stays : (bytes : List ℕ) (o : Option Entry) → is_ahead_entry o ≡ false → ReadsEntry masters bytes o → ReadsEntry next bytes o
  entry_stays bytes None behind reads = reads
  entry_stays bytes (Some e) behind reads = (reads.0, by_what e.what e.ahead e.unused behind reads.1)
    where
      by_token : (key : Denoted) (ahead : Bool) (unused : Option (List ℕ)) → ahead ≡ false → (r : ReadsKey masters bytes e.label key ahead unused) → HasToken masters bytes e.label r.token key ahead unused
          → ReadsKey next bytes e.label key ahead unused
      by_token key false unused is r body = record { token = r.token; are = r.are; is_kept = same_kept r.token ∙ r.is_kept; body = body }
      by_token key true unused is r body = let no : true ≡ false = is in absurd (cc)

      by_what : (what : Option Denoted) (ahead : Bool) (unused : Option (List ℕ)) → ahead ≡ false → ReadsWhat masters bytes e.label what ahead unused → ReadsWhat next bytes e.label what ahead unused
      by_what None ahead unused is reads = reads
      by_what (Some key) ahead unused is reads = by_token key ahead unused is reads reads.body

  row_stays : (o : Option Entry) → is_ahead_entry o ≡ false → remembered next o ≡ remembered masters o
  row_stays None behind = refl
  row_stays (Some e) behind = by_what e.what e.ahead behind
    where
      by_age : (clear : ClearKey) (age : Age) → pattern_for next (key_of_age clear age) ≡ pattern_for masters (key_of_age clear age)
      by_age clear Current = ap pattern_or current
      by_age clear Old = ap pattern_or former

      by_what : (what : Option Denoted) (ahead : Bool) → ahead ≡ false
          → remembered next (Some (entry_with e.label what ahead e.unused)) ≡ remembered masters (Some (entry_with e.label what ahead e.unused))
      by_what what true is = let no : true ≡ false = is in absurd (cc)
      by_what None false is = refl
      by_what (Some key) false is = ap (λ p. Some (record { label = e.label; pattern = Some p; ahead = None })) (by_age key.clear key.age)

  pub store_stays : (image : List ℕ) (s : List (Option Entry)) → any_ahead_entry s ≡ false → StandsForLabels masters image s → StandsForLabels next image s
  store_stays image s none stands = record {
    size = stands.size;
    reads = λ n within. entry_stays (body image n) (entry_at s n) (none_ahead s n none) (stands.reads n within);
    apart = stands.apart;
  }

  rows_stay : (s : List (Option Entry)) → any_ahead_entry s ≡ false → map (remembered next) s ≡ map (remembered masters) s
  rows_stay [] none = refl
  rows_stay (e ∷ s) none =
      let both = neither (is_ahead_entry e) (any_ahead_entry s) none in
      ap (λ r. r ∷ map (remembered next) s) (row_stays e both.0) ∙ ap (λ rs. remembered masters e ∷ rs) (rows_stay s both.1)

  pub memory_stays : (rows : List (Option Row)) (s : List (Option Entry)) → any_ahead_entry s ≡ false → Agrees masters rows s → Agrees next rows s
  memory_stays rows s none agrees = agrees ∙ sym (rows_stay s none)
