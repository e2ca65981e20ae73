-- A token with flag c0 is the one that is written with its fields.
use Rattle.std.proofs.Common.{◌≡◌, ◌≤◌, ◌<◌, ◌+◌, ◌-◌, ℕ, List, [], ◌∷◌, ◌++◌, take, drop, length, refl, sym, ap, subst, ◌∙◌, arith}
use Rattle.std.specs.Prelude.{slice_index, slice_range, ⊤}
use Rattle.std.specs.Int.{to_be_bytes, w32}
use Rattle.std.proofs.lemmas.List.{take-append-drop, take-take, drop-take, take_all}
use Rattle.device_cells.proofs.CellSteps.{length-range}
use Rattle.key_tokens.specs.Layout.{HasPlaces, IsToken, Place, layout, made, place, zeros}
use Rattle.key_tokens.specs.Kinds.{kind_byte}
use Rattle.key_tokens.specs.Tvv.{tvv_of}
use Rattle.key_tokens.specs.declared.key_token.Token.{Token}
use Rattle.key_tokens.proofs.Written.{flag-made, made-token, tvv_of-front}

-- each place begins where the one before it ends
abbrev FollowOn : ℕ → List Place → Type 0
FollowOn at [] = ⊤
FollowOn at (p ∷ places) = (p.first ≡ at) × ((at ≤ p.last + 1) × FollowOn (p.last + 1) places)

abbrev end_of : ℕ → List Place → ℕ
end_of at [] = at
end_of at (p ∷ places) = end_of (p.last + 1) places

-- what stands before a place, and what stands in it
front_more : (bytes : List ℕ) (at end : ℕ) → at ≤ end → take end bytes ≡ take at bytes ++ slice_range bytes at end
front_more bytes at end within =
    let whole : end ≡ at + (end - at) = omega (arith, within) in
    sym (take-append-drop at (take end bytes))
    ∙ ap (λ l. l ++ drop at (take end bytes)) (take-take at end bytes within)
    ∙ ap (λ n. take at bytes ++ drop at (take n bytes)) whole
    ∙ ap (λ l. take at bytes ++ l) (drop-take at (end - at) bytes)

module _ (a b : List ℕ) where
  same_front : (at : ℕ) (places : List Place) → FollowOn at places → HasPlaces a places → HasPlaces b places → take at a ≡ take at b → take (end_of at places) a ≡ take (end_of at places) b
  same_front at [] follow first second same = same
  same_front at (p ∷ places) follow first second same = same_front (p.last + 1) places follow.1.1 first.1 second.1
      (front_more a at (p.last + 1) follow.1.0
      ∙ ap (λ l. l ++ slice_range a at (p.last + 1)) same
      ∙ ap (λ l. take at b ++ l) (ap (λ f. slice_range a f (p.last + 1)) (sym follow.0) ∙ first.0 ∙ sym second.0 ∙ ap (λ f. slice_range b f (p.last + 1)) follow.0)
      ∙ sym (front_more b at (p.last + 1) follow.1.0))

has_front : (bytes : List ℕ) (places : List Place) (last : Place) → HasPlaces bytes (places ++ (last ∷ [])) → HasPlaces bytes places
has_front bytes [] last has = tt
has_front bytes (p ∷ places) last has = (has.0, has_front bytes places last has.1)

abbrev rows : Token → List Place
rows token =
    place 0 0 (kind_byte token.kind ∷ []) ∷ place 1 3 (zeros 3) ∷ place 4 4 (0 ∷ []) ∷ place 5 5 (zeros 1) ∷ place 6 6 (0xc0 ∷ [])
    ∷ place 7 7 (zeros 1) ∷ place 8 15 token.pattern ∷ place 16 23 token.sealed.left ∷ place 24 31 token.sealed.right
    ∷ place 32 47 token.vector ∷ place 48 59 (zeros 12) ∷ []

module _ (token : Token) where
  front_follows : FollowOn 0 (rows token)
  front_follows = (refl, (omega arith, (refl, (omega arith, (refl, (omega arith, (refl, (omega arith, (refl, (omega arith, (refl, (omega arith, (refl, (omega arith, (refl, (omega arith, (refl, (omega arith, (refl, (omega arith, (refl, (omega arith, tt))))))))))))))))))))))

  layout_follows : (tvv : ℕ) → FollowOn 0 (layout token 0xc0 tvv)
  layout_follows tvv = (refl, (omega arith, (refl, (omega arith, (refl, (omega arith, (refl, (omega arith, (refl, (omega arith, (refl, (omega arith, (refl, (omega arith, (refl, (omega arith, (refl, (omega arith, (refl, (omega arith, (refl, (omega arith, (refl, (omega arith, tt))))))))))))))))))))))))

  -- two tokens with the same fields and flag c0 are one
  same_token : (a b : List ℕ) → IsToken a token → IsToken b token → slice_index a 6 ≡ 0xc0 → slice_index b 6 ≡ 0xc0 → a ≡ b
  same_token a b is_a is_b flag_a flag_b =
      let has_a : HasPlaces a (layout token 0xc0 (tvv_of a)) = subst (λ (f : ℕ). HasPlaces a (layout token f (tvv_of a))) flag_a is_a.places in
      let has_b : HasPlaces b (layout token 0xc0 (tvv_of b)) = subst (λ (f : ℕ). HasPlaces b (layout token f (tvv_of b))) flag_b is_b.places in
      let front : take 60 a ≡ take 60 b = same_front a b 0 (rows token) front_follows
      (has_front a (rows token) (place 60 63 (to_be_bytes w32 (tvv_of a))) has_a)
      (has_front b (rows token) (place 60 63 (to_be_bytes w32 (tvv_of b))) has_b) refl in
      let tvv : tvv_of a ≡ tvv_of b = sym (tvv_of-front a) ∙ ap tvv_of front ∙ tvv_of-front b in
      let whole : take 64 a ≡ take 64 b = same_front a b 0 (layout token 0xc0 (tvv_of a)) (layout_follows (tvv_of a)) has_a
      (subst (λ (v : ℕ). HasPlaces b (layout token 0xc0 v)) (sym tvv) has_b) refl in
      sym (take_all 64 a (omega (arith, is_a.whole))) ∙ whole ∙ take_all 64 b (omega (arith, is_b.whole))

  made_only : (bytes : List ℕ) → IsToken (made token) token → IsToken bytes token → slice_index bytes 6 ≡ 0xc0 → bytes ≡ made token
  made_only bytes is_made is flag = same_token bytes (made token) is is_made flag (flag-made token)

-- ---- a token that is read and has flag c0 is written as it is

part_long : (bytes part : List ℕ) (at size : ℕ) → length bytes ≡ 64 → at + size < 65 → slice_range bytes at (at + size) ≡ part → length part ≡ size
part_long bytes part at size whole within is = sym (ap length is) ∙ length-range bytes at size ∙ omega (arith, whole, within)

pub made_again : (token : Token) (bytes : List ℕ) → IsToken bytes token → slice_index bytes 6 ≡ 0xc0 → bytes ≡ made token
made_again token bytes is flag =
    let p = is.places in
    made_only token bytes
    (made-token token
    (part_long bytes token.pattern 8 8 is.whole (omega arith) p.1.1.1.1.1.1.0)
    (part_long bytes token.sealed.left 16 8 is.whole (omega arith) p.1.1.1.1.1.1.1.0)
    (part_long bytes token.sealed.right 24 8 is.whole (omega arith) p.1.1.1.1.1.1.1.1.0)
    is.vector is.pattern is.right)
    is flag
