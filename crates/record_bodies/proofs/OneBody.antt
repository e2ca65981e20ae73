-- What a label stands for has one body.
use Rattle.std.proofs.Common.{◌≡◌, ◌<◌, ⊎_elim, ℕ, List, [], Bool, true, false, inl, inr, Option, None, Some, sym, ap, subst, ◌∙◌}
use Rattle.std.specs.Prelude.{slice_index}
use Rattle.std.proofs.lemmas.Bool.{cases_eq}
use Rattle.key_cells.specs.Bytes.{AreBytes}
use Rattle.device_cells.specs.Cells.{body}
use Rattle.key_tokens.specs.Denotes.{ClearKey, Denoted, MasterKey, MasterKeys, IsTokenOf, Denotes, HaveDistinctPatterns}
use Rattle.key_tokens.specs.Layout.{made}
use Rattle.key_tokens.specs.declared.key_token.Age.{Age}
use Rattle.key_tokens.specs.declared.key_token.Age.TheVariants.{Current, Old}
use Rattle.key_tokens.specs.declared.key_token.Kind.TheVariants.{Internal}
use Rattle.key_tokens.proofs.DenotedKeys.{denotes_one}
use Rattle.key_tokens.proofs.Layouts.{token_is}
use Rattle.record_bodies.proofs.TokenLaws.{made_again}
use Rattle.key_tokens.specs.declared.key_token.Token.{Token}
use Rattle.record_bodies.specs.Entries.{Entry}
use Rattle.record_bodies.specs.RecordBody.{kept, key_body, both_body, second_fields, second_token, IsTurned, IsAhead, IsFirst, IsSecond, HasToken, ReadsEntry, ReadsKey, ReadsWhat}
use Rattle.record_bodies.specs.StoreStands.{StandsForLabels}
use Rattle.record_bodies.specs.Written.{register_of, token_under, token_bytes, second_under, key_record, record_bytes, written_body}
use Rattle.record_bodies.specs.declared.rows.Second.{Second}
use Rattle.cca_roles.proofs.DirectoryLaws.{none_some}
use Rattle.record_bodies.proofs.KeptLaws.{kept_flag, kept_with_flag}
use Rattle.record_bodies.proofs.RowTurns.{is_next}
use Rattle.record_bodies.proofs.SecondLaws.{same_second}

-- a token of a key under a master key, with flag c0
one_token : (token : List ℕ) (master : MasterKey) (clear : ClearKey) → slice_index token 6 ≡ 0xc0 → IsTokenOf Internal master.pattern master.key token clear → token ≡ made (token_under master clear)
one_token token master clear flag is = made_again (token_under master clear) token is.token flag

module _ (masters : MasterKeys) (apart : HaveDistinctPatterns masters) where
  by_age : (token : List ℕ) (clear : ClearKey) (age : Age) → slice_index token 6 ≡ 0xc0 → Denotes masters token clear age → token ≡ token_bytes (register_of masters age) clear
  by_age token clear Current flag d = one_token token d.0 clear flag d.1.1 ∙ ap (λ r. token_bytes r clear) (sym d.1.0)
  by_age token clear Old flag d = one_token token d.0 clear flag d.1.1 ∙ ap (λ r. token_bytes r clear) (sym d.1.0)

  pub kept_one : (token : List ℕ) (key : Denoted) → AreBytes 64 token → kept masters token ≡ Some key → token ≡ token_bytes (register_of masters key.age) key.clear
  kept_one token key are is = ⊎_elim
      (λ (flag : slice_index token 6 ≡ 0xc0).
      by_age token key.clear key.age flag ((denotes_one masters [] token are apart).internal_back key.clear key.age (sym (kept_with_flag masters token flag) ∙ is)))
      (λ (other : slice_index token 6 ≡ 0xc0 → ⊥). absurd (none_some key (sym (kept_flag masters token other) ∙ is)))
      (cases_eq (slice_index token 6) 0xc0)

  -- a second token that stands for a key, by its pieces
  second_by_age : (first : List ℕ) (second : Second) (clear : ClearKey) (age : Age) → IsFirst first → IsSecond first second → Denotes masters (second_token first second) clear age
      → second ≡ second_under (register_of masters age) clear
  second_by_age first second clear age is_first is_second d = by_register (master_of age d)
    where
      master_of : (a : Age) → Denotes masters (second_token first second) clear a → (master : MasterKey) × (register_of masters a ≡ Some master) × IsTokenOf Internal master.pattern master.key (second_token first second) clear
      master_of Current d = (d.0, d.1.0, d.1.1)
      master_of Old d = (d.0, d.1.0, d.1.1)

      by_register : (master : MasterKey) × (register_of masters age ≡ Some master) × IsTokenOf Internal master.pattern master.key (second_token first second) clear → second ≡ second_under (register_of masters age) clear
      by_register is =
          let next = is_next first second is_first is_second in
          let same : second_fields first second ≡ token_under is.0 clear =
          sym (token_is (second_token first second) next.whole (second_fields first second) next) ∙ token_is (second_token first second) next.whole (token_under is.0 clear) is.2.token in
          same_second second (second_under (Some is.0) clear)
          (ap (λ (t : Token). t.pattern) same) (ap (λ (t : Token). t.sealed.left) same) (ap (λ (t : Token). t.sealed.right) same)
          ∙ ap (λ r. second_under r clear) (sym is.1)

  second_one : (first : List ℕ) (second : Second) (key : Denoted) → IsFirst first → IsSecond first second → AreBytes 64 (second_token first second) → kept masters (second_token first second) ≡ Some key
      → second ≡ second_under (register_of masters key.age) key.clear
  second_one first second key is_first is_second are is =
      let token : List ℕ = second_token first second in ⊎_elim
      (λ (flag : slice_index token 6 ≡ 0xc0).
      second_by_age first second key.clear key.age is_first is_second ((denotes_one masters [] token are apart).internal_back key.clear key.age (sym (kept_with_flag masters token flag) ∙ is)))
      (λ (other : slice_index token 6 ≡ 0xc0 → ⊥). absurd (none_some key (sym (kept_flag masters token other) ∙ is)))
      (cases_eq (slice_index token 6) 0xc0)

  -- the only body that reads as an entry
  pub one_body : (bytes : List ℕ) (e : Option Entry) → ReadsEntry masters bytes e → bytes ≡ written_body masters e
  one_body bytes None reads = reads
  one_body bytes (Some e) reads = by_what e.label e.what e.ahead e.unused reads.1
    where
      by_turned : (label token : List ℕ) (key : Denoted) (t : IsTurned bytes label token) → AreBytes 64 token → kept masters token ≡ Some key → bytes ≡ both_body label t.first (second_under (register_of masters key.age) key.clear)
      by_turned label token key t are is =
          t.body ∙ ap (both_body label t.first) (second_one t.first t.second key t.is_first t.is_second (subst (AreBytes 64) t.under are) (ap (kept masters) (sym t.under) ∙ is))

      by_token : (label : List ℕ) (key : Denoted) (ahead : Bool) (unused : Option (List ℕ)) (reads : ReadsKey masters bytes label key ahead unused) → HasToken masters bytes label reads.token key ahead unused
          → bytes ≡ key_record masters label key ahead unused
      by_token label key false unused reads (inl is) = is.0 ∙ ap (key_body label) (kept_one reads.token key reads.are reads.is_kept) ∙ ap (λ u. key_record masters label key false u) (sym is.1)
      by_token label key false unused reads (inr is) = by_turned label reads.token key is.0 reads.are reads.is_kept ∙ ap (λ u. key_record masters label key false u) (sym is.1)
      by_token label key true unused reads is =
          let a : IsAhead masters bytes label reads.token key = is.0 in
          a.body
          ∙ ap (λ t. both_body label t a.second) (kept_one reads.token key reads.are reads.is_kept ∙ ap (λ g. token_bytes (register_of masters g) key.clear) a.current)
          ∙ ap (both_body label (token_bytes masters.current key.clear)) (a.sealed ∙ ap (λ r. second_under r key.clear) (sym a.is_coming))

      by_what : (label : List ℕ) (what : Option Denoted) (ahead : Bool) (unused : Option (List ℕ)) → ReadsWhat masters bytes label what ahead unused
          → bytes ≡ record_bytes masters (record { label = label; what = what; ahead = ahead; unused = unused }) what
      by_what label None ahead unused is = is.0
      by_what label (Some key) ahead unused is = by_token label key ahead unused is is.body

  -- two stores that stand for the same labels have the same selected bytes
  pub same_bodies : (a b : List ℕ) (s : List (Option Entry)) (n : ℕ) → StandsForLabels masters a s → StandsForLabels masters b s → n < 1024 → body a n ≡ body b n
  same_bodies a b s n first second below = one_body (body a n) _ (first.reads n below) ∙ sym (one_body (body b n) _ (second.reads n below))
