-- The body of a record, and what it reads as.
use Rattle.std.proofs.Common.{◌≡◌, ◌≢◌, ◌≤◌, ◌-◌, ◌⊎◌, inl, inr, ℕ, Bool, true, false, List, ◌++◌, length, take, drop, replicate, Option, None, Some, refl, sym, ap, subst, ◌∙◌, arith}
use Rattle.std.specs.Prelude.{slice_index, bytes_eq, IsSome, IsTrue, is_some, not, if◌then◌else◌}
use Rattle.std.proofs.lemmas.Bool.{false_from_ne_true}
use Rattle.std.proofs.lemmas.List.{append_assoc, take_at, drop_at, length-append, length-replicate}
use Rattle.std.proofs.lemmas.Slice.Eq.{bytes_eq-Decides}
use Rattle.cca_roles.specs.NameLaws.{label_short}
use Rattle.key_cells.specs.Bytes.{AreBytes}
use Rattle.key_tokens.specs.Denotes.{MasterKeys, Denoted}
use Rattle.record_bodies.specs.Labels.{IsLabel}
use Rattle.record_bodies.specs.Entries.{Entry}
use Rattle.record_bodies.specs.RecordBody.{record_body, blank_body, no_token, no_second, key_body, both_body, kept, second_token, ReadsEntry, ReadsWhat, ReadsKey, HasToken, IsTurned, IsAhead, IsPair, IsBoth, label_in, token_in, second_in, is_turned, what_of, ahead_of, unused_of, IsWhat, entry_in, null_kind, key_kind, both_kind}
use Rattle.record_bodies.specs.declared.rows.Second.{Second}
use Rattle.record_bodies.proofs.KeptLaws.{kept_first}
use Rattle.record_bodies.proofs.SecondLaws.{same_second, IsLong, none_long, second_long, second_bytes}

module _ (kind : ℕ) (label token : List ℕ) (second : Second) where
  pub kind_again : slice_index (record_body kind label token second) 0 ≡ kind
  unfolding record_body
  kind_again = refl

  -- what stands behind the token
  abbrev behind : List ℕ
  behind = second.pattern.bytes ++ (second.sealed.left ++ (second.sealed.right ++ replicate 38 0))

  pub label_again : label_in (record_body kind label token second) ≡ label
  unfolding record_body
  label_again = take_at label (replicate (64 - length label) 0 ++ (token ++ behind)) (length label) refl

  pub token_again : length label ≤ 64 → length token ≡ 64 → token_in (record_body kind label token second) ≡ token
  unfolding record_body
  token_again short long =
      ap (λ l. take 64 (drop 64 l)) (sym (append_assoc label (replicate (64 - length label) 0) (token ++ behind)))
      ∙ ap (take 64) (drop_at (label ++ replicate (64 - length label) 0) (token ++ behind) 64 (length-append label (replicate (64 - length label) 0) ∙ omega (arith, length-replicate {A = ℕ} (64 - length label) 0)))
      ∙ take_at token behind 64 long

  -- a piece behind others
  piece_at : (front piece rest : List ℕ) (at : ℕ) → length front ≡ at → length piece ≡ 8 → take 8 (drop at (front ++ (piece ++ rest))) ≡ piece
  piece_at front piece rest at long size = ap (take 8) (drop_at front (piece ++ rest) at long) ∙ take_at piece rest 8 size

  abbrev before : List ℕ
  before = label ++ (replicate (64 - length label) 0 ++ token)

  before_long : length label ≤ 64 → length token ≡ 64 → length before ≡ 128
  before_long short long =
      length-append label (replicate (64 - length label) 0 ++ token)
      ∙ omega (arith, length-append (replicate (64 - length label) 0) token, length-replicate {A = ℕ} (64 - length label) 0, long, short)

  pieces : (p l r e : List ℕ) → label ++ (replicate (64 - length label) 0 ++ (token ++ (p ++ (l ++ (r ++ e))))) ≡ before ++ (p ++ (l ++ (r ++ e)))
  pieces p l r e = simp append_assoc

  pieces_left : (p l r e : List ℕ) → label ++ (replicate (64 - length label) 0 ++ (token ++ (p ++ (l ++ (r ++ e))))) ≡ (before ++ p) ++ (l ++ (r ++ e))
  pieces_left p l r e = simp append_assoc

  pieces_right : (p l r e : List ℕ) → label ++ (replicate (64 - length label) 0 ++ (token ++ (p ++ (l ++ (r ++ e))))) ≡ ((before ++ p) ++ l) ++ (r ++ e)
  pieces_right p l r e = simp append_assoc

  pub second_again : length label ≤ 64 → length token ≡ 64 → IsLong second → second_in (record_body kind label token second) ≡ second
  unfolding record_body
  second_again short long is =
      let p : List ℕ = second.pattern.bytes in
      let l : List ℕ = second.sealed.left in
      let r : List ℕ = second.sealed.right in
      let e : List ℕ = replicate 38 0 in
      let front : length before ≡ 128 = before_long short long in
      same_second _ second
      (ap (λ x. take 8 (drop 128 x)) (pieces p l r e) ∙ piece_at before p (l ++ (r ++ e)) 128 front is.pattern)
      (ap (λ x. take 8 (drop 136 x)) (pieces_left p l r e) ∙ piece_at (before ++ p) l (r ++ e) 136 (length-append before p ∙ omega (arith, front, is.pattern)) is.left)
      (ap (λ x. take 8 (drop 144 x)) (pieces_right p l r e)
      ∙ piece_at ((before ++ p) ++ l) r e 144 (length-append (before ++ p) l ∙ omega (arith, length-append before p, front, is.pattern, is.left)) is.right)

pub blank_first : slice_index blank_body 0 ≡ 0
unfolding blank_body
blank_first = refl

pub length-no_token : length no_token ≡ 64
unfolding no_token
length-no_token = length-replicate {A = ℕ} 64 0

abbrev pub entry_with : List ℕ → Option Denoted → Bool → Option (List ℕ) → Entry
entry_with label what ahead unused = record { label = label; what = what; ahead = ahead; unused = unused }

abbrev entry_of : MasterKeys → ℕ → List ℕ → List ℕ → Second → Entry
entry_of masters kind label token second = entry_with label (what_of masters kind token second) (ahead_of masters kind token second) (unused_of masters kind token second)

-- a body that isn't blank reads as what stands in it
pub entry_there : (masters : MasterKeys) (bytes : List ℕ) → bytes ≢ blank_body → entry_in masters bytes ≡ Some (entry_of masters (slice_index bytes 0) (label_in bytes) (token_in bytes) (second_in bytes))
unfolding entry_in
entry_there masters bytes some =
    ap (λ t. if t then None else Some (entry_of masters (slice_index bytes 0) (label_in bytes) (token_in bytes) (second_in bytes)))
    (false_from_ne_true (bytes_eq bytes blank_body) (λ same. some ((bytes_eq-Decides bytes blank_body).0 same)))

pub entry_blank : (masters : MasterKeys) (bytes : List ℕ) → bytes ≡ blank_body → entry_in masters bytes ≡ None
unfolding entry_in
entry_blank masters bytes is =
    ap (λ t. if t then None else Some (entry_of masters (slice_index bytes 0) (label_in bytes) (token_in bytes) (second_in bytes)))
    ((bytes_eq-Decides bytes blank_body).1 is)

-- ---- a body reads as one entry alone

pub entry_of_body : (masters : MasterKeys) (bytes : List ℕ) (kind : ℕ) (label token : List ℕ) (second : Second) (what : Option Denoted) (ahead : Bool) (unused : Option (List ℕ))
    → bytes ≡ record_body kind label token second → kind ≢ 0 → length label ≤ 64 → length token ≡ 64 → IsLong second
    → what_of masters kind token second ≡ what → ahead_of masters kind token second ≡ ahead → unused_of masters kind token second ≡ unused → entry_in masters bytes ≡ Some (entry_with label what ahead unused)
entry_of_body masters bytes kind label token second what ahead unused is some short long second_is what_is ahead_is unused_is =
    let body : List ℕ = record_body kind label token second in
    ap (entry_in masters) is
    ∙ entry_there masters body (λ blank. some (sym (kind_again kind label token second) ∙ ap (λ l. slice_index l 0) blank ∙ blank_first))
    ∙ ap (λ l. Some (entry_of masters (slice_index body 0) l (token_in body) (second_in body))) (label_again kind label token second)
    ∙ ap (λ k. Some (entry_of masters k label (token_in body) (second_in body))) (kind_again kind label token second)
    ∙ ap (λ t. Some (entry_of masters kind label t (second_in body))) (token_again kind label token second short long)
    ∙ ap (λ s. Some (entry_of masters kind label token s)) (second_again kind label token second short long second_is)
    ∙ ap (λ w. Some (entry_with label w (ahead_of masters kind token second) (unused_of masters kind token second))) what_is
    ∙ ap (λ a. Some (entry_with label what a (unused_of masters kind token second))) ahead_is
    ∙ ap (λ u. Some (entry_with label what ahead u)) unused_is

-- where the second token stands for a key, and where it doesn't
module _ (masters : MasterKeys) (token : List ℕ) (second : Second) where
  pub what_turned : (b : Bool) → is_turned masters token second ≡ b → what_of masters both_kind token second ≡ kept masters (if b then second_token token second else token)
  what_turned b is = ap (λ t. kept masters (if t then second_token token second else token)) is

  pub ahead_turned : (b : Bool) → is_turned masters token second ≡ b → ahead_of masters both_kind token second ≡ not b
  ahead_turned b is = ap not is

  pub unused_turned : (b : Bool) → is_turned masters token second ≡ b → unused_of masters both_kind token second ≡ (if b then Some token else None)
  unused_turned b is = ap (λ t. if t then Some token else None) is

pub reads_one : (masters : MasterKeys) (bytes : List ℕ) (e : Option Entry) → ReadsEntry masters bytes e → entry_in masters bytes ≡ e
reads_one masters bytes None reads = entry_blank masters bytes reads
reads_one masters bytes (Some e) reads = ap (λ x. x) (by_what e.label e.what e.ahead e.unused reads.0 reads.1)
  where
    by_token : (label : List ℕ) (key : Denoted) (ahead : Bool) (unused : Option (List ℕ)) → IsLabel label → (reads : ReadsKey masters bytes label key ahead unused) → HasToken masters bytes label reads.token key ahead unused
        → entry_in masters bytes ≡ Some (entry_with label (Some key) ahead unused)
    by_token label key false unused is reads (inl one) =
        entry_of_body masters bytes key_kind label reads.token no_second (Some key) false unused one.0 (λ z. cc) (label_short label is) reads.are.size none_long reads.is_kept refl (sym one.1)
    by_token label key false unused is reads (inr two) =
        let t : IsTurned bytes label reads.token = two.0 in
        let stands : kept masters (second_token t.first t.second) ≡ Some key = ap (kept masters) (sym t.under) ∙ reads.is_kept in
        let turned : is_turned masters t.first t.second ≡ true = ap (λ o. is_some o) stands in
        entry_of_body masters bytes both_kind label t.first t.second (Some key) false unused t.body (λ z. cc) (label_short label is) t.is_first.bytes.size (second_long t.first t.second t.is_second)
        (what_turned masters t.first t.second true turned ∙ stands) (ahead_turned masters t.first t.second true turned) (unused_turned masters t.first t.second true turned ∙ sym two.1)
    by_token label key true unused is reads two =
        let a : IsAhead masters bytes label reads.token key = two.0 in
        let turned : is_turned masters reads.token a.second ≡ false = ap (λ o. is_some o) a.apart in
        entry_of_body masters bytes both_kind label reads.token a.second (Some key) true unused a.body (λ z. cc) (label_short label is) reads.are.size (second_long reads.token a.second a.is_second)
        (what_turned masters reads.token a.second false turned ∙ reads.is_kept) (ahead_turned masters reads.token a.second false turned) (unused_turned masters reads.token a.second false turned ∙ sym two.1)

    by_what : (label : List ℕ) (what : Option Denoted) (ahead : Bool) (unused : Option (List ℕ)) → IsLabel label → ReadsWhat masters bytes label what ahead unused
        → entry_in masters bytes ≡ Some (entry_with label what ahead unused)
    by_what label None ahead unused is reads =
        entry_of_body masters bytes null_kind label no_token no_second None ahead unused reads.0 (λ z. cc) (label_short label is) length-no_token none_long refl (sym reads.1) (sym reads.2)
    by_what label (Some key) ahead unused is reads = by_token label key ahead unused is reads reads.body

-- ---- what stands in a body, and what it reads as

-- a record of some kind, with tokens that fit it
pub record Spelled (masters : MasterKeys) (bytes : List ℕ) : Type 0 where
  pub kind : ℕ
  pub label : List ℕ
  pub token : List ℕ
  pub second : Second
  pub is_label : IsLabel label
  pub long : length token ≡ 64
  pub second_is : IsLong second
  pub body : bytes ≡ record_body kind label token second
  pub what : IsWhat masters kind token second

pub spelled : (masters : MasterKeys) (bytes : List ℕ) (e : Option Entry) → bytes ≢ blank_body → ReadsEntry masters bytes e → Spelled masters bytes
spelled masters bytes None some reads = absurd (some reads)
spelled masters bytes (Some e) some reads = by_what e.label e.what e.ahead e.unused reads.0 reads.1
  where
    is_some_of : (o : Option Denoted) (key : Denoted) → o ≡ Some key → IsSome o
    is_some_of o key is = subst (λ (x : Option Denoted). IsSome x) (sym is) refl

    by_token : (label : List ℕ) (key : Denoted) (ahead : Bool) (unused : Option (List ℕ)) → IsLabel label → (reads : ReadsKey masters bytes label key ahead unused) → HasToken masters bytes label reads.token key ahead unused
        → Spelled masters bytes
    by_token label key false unused is reads (inl one) =
        record {
          kind = key_kind;
          label = label;
          token = reads.token;
          second = no_second;
          is_label = is;
          long = reads.are.size;
          second_is = none_long;
          body = one.0;
          what = inr (inl (refl, refl, is_some_of (kept masters reads.token) key reads.is_kept));
        }
    by_token label key false unused is reads (inr two) =
        let t : IsTurned bytes label reads.token = two.0 in
        record {
          kind = both_kind;
          label = label;
          token = t.first;
          second = t.second;
          is_label = is;
          long = t.is_first.bytes.size;
          second_is = second_long t.first t.second t.is_second;
          body = t.body;
          what = inr (inr (refl, record { is_first = t.is_first; is_second = t.is_second; either = inl (is_some_of (kept masters (second_token t.first t.second)) key (ap (kept masters) (sym t.under) ∙ reads.is_kept)) }));
        }
    by_token label key true unused is reads two =
        let a : IsAhead masters bytes label reads.token key = two.0 in
        record {
          kind = both_kind;
          label = label;
          token = reads.token;
          second = a.second;
          is_label = is;
          long = reads.are.size;
          second_is = second_long reads.token a.second a.is_second;
          body = a.body;
          what = inr (inr (
            refl,
            record {
              is_first = kept_first masters reads.token key reads.are reads.is_kept;
              is_second = a.is_second;
              either = inr (record { key = key; is_kept = reads.is_kept; current = a.current; coming = a.coming; is_coming = a.is_coming; sealed = a.sealed });
            },
          ));
        }

    by_what : (label : List ℕ) (what : Option Denoted) (ahead : Bool) (unused : Option (List ℕ)) → IsLabel label → ReadsWhat masters bytes label what ahead unused → Spelled masters bytes
    by_what label None ahead unused is reads =
        record { kind = null_kind; label = label; token = no_token; second = no_second; is_label = is; long = length-no_token; second_is = none_long; body = reads.0; what = inl (refl, refl, refl) }
    by_what label (Some key) ahead unused is reads = by_token label key ahead unused is reads reads.body

module _ (masters : MasterKeys) (bytes : List ℕ) (s : Spelled masters bytes) where
  pub spelled_label : label_in bytes ≡ s.label
  spelled_label = ap label_in s.body ∙ label_again s.kind s.label s.token s.second

  pub spelled_kind : slice_index bytes 0 ≡ s.kind
  spelled_kind = ap (λ l. slice_index l 0) s.body ∙ kind_again s.kind s.label s.token s.second

  pub spelled_token : token_in bytes ≡ s.token
  spelled_token = ap token_in s.body ∙ token_again s.kind s.label s.token s.second (label_short s.label s.is_label) s.long

  pub spelled_second : second_in bytes ≡ s.second
  spelled_second = ap second_in s.body ∙ second_again s.kind s.label s.token s.second (label_short s.label s.is_label) s.long s.second_is

  pub spelled_again : bytes ≡ record_body (slice_index bytes 0) (label_in bytes) (token_in bytes) (second_in bytes)
  spelled_again = s.body
      ∙ ap (λ k. record_body k s.label s.token s.second) (sym spelled_kind)
      ∙ ap (λ l. record_body (slice_index bytes 0) l s.token s.second) (sym spelled_label)
      ∙ ap (λ t. record_body (slice_index bytes 0) (label_in bytes) t s.second) (sym spelled_token)
      ∙ ap (λ x. record_body (slice_index bytes 0) (label_in bytes) (token_in bytes) x) (sym spelled_second)

  pub spelled_what : IsWhat masters (slice_index bytes 0) (token_in bytes) (second_in bytes)
  spelled_what =
      subst (λ (k : ℕ). IsWhat masters k (token_in bytes) (second_in bytes)) (sym spelled_kind)
      (subst (λ (t : List ℕ). IsWhat masters s.kind t (second_in bytes)) (sym spelled_token)
      (subst (λ (x : Second). IsWhat masters s.kind s.token x) (sym spelled_second) s.what))

pub some_kind : (masters : MasterKeys) (kind : ℕ) (token : List ℕ) (second : Second) → IsWhat masters kind token second → kind ≢ 0
some_kind masters kind token second (inl is) none = omega (arith, is.0, none)
some_kind masters kind token second (inr (inl is)) none = omega (arith, is.0, none)
some_kind masters kind token second (inr (inr is)) none = omega (arith, is.0, none)

some_of : (o : Option Denoted) → is_some o ≡ true → (key : Denoted) × (o ≡ Some key)
some_of None some = let no_key : false ≡ true = some in absurd (cc)
some_of (Some key) some = (key, refl)

none_of : (o : Option Denoted) → is_some o ≡ false → o ≡ None
none_of None none = refl
none_of (Some key) none = let wrong : true ≡ false = none in absurd (cc)

module _ (masters : MasterKeys) (bytes : List ℕ) (kind : ℕ) (label token : List ℕ) (second : Second) (is : bytes ≡ record_body kind label token second) (is_label : IsLabel label)
    (are : AreBytes 64 token) (long : IsLong second) (what : IsWhat masters kind token second) where
  pub entry_is : entry_in masters bytes ≡ Some (entry_of masters kind label token second)
  entry_is =
      entry_of_body masters bytes kind label token second (what_of masters kind token second) (ahead_of masters kind token second) (unused_of masters kind token second) is
      (some_kind masters kind token second what) (label_short label is_label) are.size long refl refl refl

  abbrev Reads : ℕ → List ℕ → Second → Type 0
  Reads k t s = ReadsWhat masters bytes label (what_of masters k t s) (ahead_of masters k t s) (unused_of masters k t s)

  abbrev As : Bool → Type 0
  As t = ReadsWhat masters bytes label (kept masters (if t then second_token token second else token)) (not t) (if t then Some token else None)

  both_reads : bytes ≡ both_body label token second → IsBoth masters token second → Reads both_kind token second
  both_reads body b = by_turn (is_turned masters token second) refl
    where
      by_pair : is_turned masters token second ≡ false → (IsTrue (is_turned masters token second)) ⊎ IsPair masters token second → As false
      by_pair isnt (inl turned) = let wrong : true ≡ false = sym turned ∙ isnt in absurd (cc)
      by_pair isnt (inr pair) = subst (λ (o : Option Denoted). ReadsWhat masters bytes label o true None) (sym pair.is_kept) (record {
        token = token;
        are = are;
        is_kept = pair.is_kept;
        body = (
          record {
            second = second;
            is_second = b.is_second;
            current = pair.current;
            coming = pair.coming;
            is_coming = pair.is_coming;
            sealed = pair.sealed;
            apart = none_of (kept masters (second_token token second)) isnt;
            body = body;
          },
          refl,
        );
      })

      by_turn : (t : Bool) → is_turned masters token second ≡ t → Reads both_kind token second
      by_turn true turned =
          let key = some_of (kept masters (second_token token second)) turned in
          subst (λ (t : Bool). As t) (sym turned) (subst (λ (o : Option Denoted). ReadsWhat masters bytes label o false (Some token)) (sym key.1) (record {
            token = second_token token second;
            are = second_bytes token second b.is_first b.is_second;
            is_kept = key.1;
            body = inr (record { first = token; second = second; is_first = b.is_first; is_second = b.is_second; under = refl; body = body }, refl);
          }))
      by_turn false isnt = subst (λ (t : Bool). As t) (sym isnt) (by_pair isnt b.either)

  reads_what : Reads kind token second
  reads_what = by_kind what
    where
      by_kept : (o : Option Denoted) → kept masters token ≡ o → IsSome o → bytes ≡ key_body label token → ReadsWhat masters bytes label (kept masters token) false None
      by_kept None kept_is some body = let no_key : false ≡ true = some in absurd (cc)
      by_kept (Some key) kept_is some body = subst (λ (o : Option Denoted). ReadsWhat masters bytes label o false None) (sym kept_is) (record { token = token; are = are; is_kept = kept_is; body = inl (body, refl) })

      by_kind : IsWhat masters kind token second → Reads kind token second
      by_kind (inl null) =
          subst (λ (k : ℕ). Reads k token second) (sym null.0)
          ((is ∙ ap (λ k. record_body k label token second) null.0 ∙ ap (λ t. record_body null_kind label t second) null.1 ∙ ap (record_body null_kind label no_token) null.2), refl, refl)
      by_kind (inr (inl key)) =
          subst (λ (k : ℕ). Reads k token second) (sym key.0)
          (by_kept (kept masters token) refl key.2 (is ∙ ap (λ k. record_body k label token second) key.0 ∙ ap (record_body key_kind label token) key.1))
      by_kind (inr (inr two)) =
          subst (λ (k : ℕ). Reads k token second) (sym two.0)
          (both_reads (is ∙ ap (λ k. record_body k label token second) two.0) two.1)

  pub entry_reads : ReadsEntry masters bytes (entry_in masters bytes)
  entry_reads = subst (ReadsEntry masters bytes) (sym entry_is) (is_label, reads_what)

pub no_token_is : (token : List ℕ) → token ≡ replicate 64 0 → token ≡ no_token
unfolding no_token
no_token_is token is = is

pub blank_is : (bytes : List ℕ) → bytes ≡ replicate 192 0 → bytes ≡ blank_body
unfolding blank_body
blank_is bytes is = is
