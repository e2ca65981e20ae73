-- A master key that is entered in parts, from request to request.
use Rattle.std.proofs.Common.{◌≡◌, ℕ, ◌/◌, ◌==◌, List, [], ◌∷◌, ◌++◌, length, map, Some, IsTrue, refl, sym, ap, subst, ◌∙◌, codes}
use Rattle.std.specs.Prelude.{All, fold}
use Rattle.std.specs.List.{list_all}
use Rattle.std.proofs.lemmas.Bool.{and_parts}
use Rattle.std.proofs.lemmas.Bool.Decides.{Decides-eqb}
use Rattle.std.proofs.lemmas.List.Elements.{All-cons, All-head, All-nil, All-push, All-tail}
use Rattle.hex.specs.Hex.{is_hex_digit}
use Rattle.key_cells.specs.Bytes.{AreBytes, xor}
use Rattle.key_parts.specs.Parts.{IsOnlyPart, xor_all}
use Rattle.key_parts.proofs.XorLemmas.{bytes-xor, only_part, xor-again, xor-comm, xor-fold}
use Rattle.master_registers.specs.Actions.{after_action}
use Rattle.master_registers.specs.Masters.{Empty, Full, NewRegister, Partial, new_bytes}
use Rattle.verb_script.specs.Grammar.{Request, accepts, hex_digits}
use Rattle.verb_script.specs.Values.{hex_value}
use Rattle.cca_machine.specs.Act.{performed}
use Rattle.cca_machine.specs.Actions.{part_action}
use Rattle.cca_machine.specs.State.{State}
use Rattle.cca_laws.specs.KeyInParts.{AreCarriedOut, Custodian, IsPermitted, bytes_of}
use Rattle.cca_laws.specs.MasterBytes.{with_new}
use Rattle.cca_laws.specs.MasterParts.{Ceremony, IsOnlyLast, after_last_part, begin_requests, master_parts, part_request, set_request}
use Rattle.cca_laws.specs.Targets.{clear_of_label}
use Rattle.cca_laws.proofs.LabelLaws.{aging_keeps}
use Rattle.cca_laws.proofs.PartLaws.{done, spelled}

-- ---- lists

fold_last : (f : List ℕ → List ℕ → List ℕ) (start : List ℕ) (xs : List (List ℕ)) (y : List ℕ) → fold f start (xs ++ y ∷ []) ≡ f (fold f start xs) y
fold_last f start [] y = refl
fold_last f start (x ∷ xs) y = fold_last f (f start x) xs y

-- requests that are carried out after others
carried_append : (s now : State) (rs qs : List Request) → AreCarriedOut s (rs ++ qs) now → (t : State) × AreCarriedOut s rs t × AreCarriedOut t qs now
carried_append s now [] qs out = (s, refl, out)
carried_append s now (r ∷ rs) qs out =
    let rest = carried_append (performed s [] r).state now rs qs out.1 in (rest.0, (out.0, rest.1), rest.2)

front_of : (P : List ℕ → Type 0) (xs ys : List (List ℕ)) → All P (xs ++ ys) → All P xs
front_of P [] ys all = All-nil P
front_of P (x ∷ xs) ys all = All-cons P x xs (All-head P x (xs ++ ys) all) (front_of P xs ys (All-tail P x (xs ++ ys) all))

back_of : (P : List ℕ → Type 0) (xs ys : List (List ℕ)) → All P (xs ++ ys) → All P ys
back_of P [] ys all = all
back_of P (x ∷ xs) ys all = back_of P xs ys (All-tail P x (xs ++ ys) all)

-- ---- one part

-- its digits spell 24 bytes
part_of_24 : (digits : List ℕ) → IsTrue (accepts (hex_digits 48) digits) → AreBytes 24 (hex_value digits)
part_of_24 digits is =
    let both = and_parts (length digits == 48) (list_all is_hex_digit digits) is in
    let half : length digits / 2 ≡ 24 = ap (λ n. n / 2) ((Decides-eqb (length digits) 48).0 both.0) in
    subst (λ n. AreBytes n (hex_value digits)) half (spelled digits 48 is refl)

module _ (s : State) (action : List ℕ) (c : Custodian) (is : IsPermitted s (part_request action c)) where
  part_bytes : AreBytes 24 (bytes_of c)
  part_bytes = part_of_24 c.part is.spelled.1.1.0

  -- nothing but the registers changes
  part_done : (performed s [] (part_request action c)).state ≡ record s { registers = after_action (part_action action) (bytes_of c) s.registers }
  part_done = done s (part_request action c) is.permitted

-- ---- FIRST and MIDDLE

-- MIDDLE for each of the parts
middle_done : (s t u : State) (held : List ℕ) (cs : List Custodian) → t ≡ with_new s (Partial held)
    → AreCarriedOut t (map (part_request (codes "MIDDLE")) cs) u
    → (u ≡ with_new s (Partial (fold xor held (map bytes_of cs)))) × All (AreBytes 24) (map bytes_of cs)
middle_done s t u held [] is out = (out ∙ is, All-nil (AreBytes 24))
middle_done s t u held (c ∷ cs) is out =
    let middle : Request = part_request (codes "MIDDLE") c in
    let permits : IsPermitted (with_new s (Partial held)) middle = subst (λ (x : State). IsPermitted x middle) is out.0 in
    let next : (performed t [] middle).state ≡ with_new s (Partial (xor held (bytes_of c))) =
    ap (λ (x : State). (performed x [] middle).state) is ∙ part_done (with_new s (Partial held)) (codes "MIDDLE") c permits in
    let rest = middle_done s (performed t [] middle).state u (xor held (bytes_of c)) cs next out.1 in
    (rest.0, All-cons (AreBytes 24) (bytes_of c) (map bytes_of cs) (part_bytes t (codes "MIDDLE") c out.0) rest.1)

-- what they leave
record IsBegun (s t : State) (first : Custodian) (middle : List Custodian) : Type 0 where
  one : AreBytes 24 (bytes_of first)
  more : All (AreBytes 24) (map bytes_of middle)
  now : t ≡ with_new s (Partial (fold xor (bytes_of first) (map bytes_of middle)))

begun : (s t : State) (first : Custodian) (middle : List Custodian) → AreCarriedOut s (begin_requests first middle) t → IsBegun s t first middle
begun s t first middle out =
    let one : AreBytes 24 (bytes_of first) = part_bytes s (codes "FIRST") first out.0 in
    let rest = middle_done s (performed s [] (part_request (codes "FIRST") first)).state t (bytes_of first) middle (part_done s (codes "FIRST") first out.0) out.1 in
    record { one = one; more = rest.1; now = rest.0 }

pub partly_full : (s t : State) (first : Custodian) (middle : List Custodian) → AreCarriedOut s (begin_requests first middle) t
    → t ≡ with_new s (Partial (xor_all 24 (bytes_of first ∷ map bytes_of middle)))
partly_full s t first middle out =
    let b = begun s t first middle out in
    b.now ∙ ap (λ held. with_new s (Partial held)) (xor-fold 24 (bytes_of first) (map bytes_of middle) b.one b.more)

-- ---- LAST and SET

module _ (s : State) (c : Ceremony s) where
  -- the parts, and the state before SET
  record IsEntered : Type 0 where
    bytes : All (AreBytes 24) (master_parts s c)
    now : c.entered ≡ with_new s (Full (xor_all 24 (master_parts s c)))

  is_entered : IsEntered
  is_entered =
      let both = carried_append s c.entered (begin_requests c.first c.middle) (part_request (codes "LAST") c.last ∷ []) c.enters in
      let t : State = both.0 in
      let b = begun s t c.first c.middle both.1 in
      let held : List ℕ = fold xor (bytes_of c.first) (map bytes_of c.middle) in
      let last : Request = part_request (codes "LAST") c.last in
      let permits : IsPermitted (with_new s (Partial held)) last = subst (λ (x : State). IsPermitted x last) b.now both.2.0 in
      let after : (performed t [] last).state ≡ with_new s (Full (xor held (bytes_of c.last))) =
      ap (λ (x : State). (performed x [] last).state) b.now ∙ part_done (with_new s (Partial held)) (codes "LAST") c.last permits in
      let others : All (AreBytes 24) (map bytes_of c.middle ++ bytes_of c.last ∷ []) =
      All-push (AreBytes 24) (map bytes_of c.middle) (bytes_of c.last) b.more (part_bytes t (codes "LAST") c.last both.2.0) in
      let whole : xor held (bytes_of c.last) ≡ xor_all 24 (master_parts s c) =
      sym (fold_last xor (bytes_of c.first) (map bytes_of c.middle) (bytes_of c.last))
      ∙ xor-fold 24 (bytes_of c.first) (map bytes_of c.middle ++ bytes_of c.last ∷ []) b.one others in
      record {
        bytes = All-cons (AreBytes 24) (bytes_of c.first) (map bytes_of c.middle ++ bytes_of c.last ∷ []) b.one others;
        now = both.2.1 ∙ (after ∙ ap (λ key. with_new s (Full key)) whole);
      }

  pub entered_full : c.entered ≡ with_new s (Full (xor_all 24 (master_parts s c)))
  entered_full = is_entered.now

  pub parts_long : All (AreBytes 24) (master_parts s c)
  parts_long = is_entered.bytes

  -- the state after SET
  set_done : c.now ≡ (performed (with_new s (Full (xor_all 24 (master_parts s c)))) [] (set_request c.role)).state
  set_done = c.sets.1 ∙ ap (λ (x : State). (performed x [] (set_request c.role)).state) entered_full

  permits_set : IsPermitted (with_new s (Full (xor_all 24 (master_parts s c)))) (set_request c.role)
  permits_set = subst (λ (x : State). IsPermitted x (set_request c.role)) entered_full c.sets.0

  pub set_registers : c.now.registers ≡ record { coming = Empty; current = Some (xor_all 24 (master_parts s c)); former = s.registers.current }
  set_registers =
      ap (λ (x : State). x.registers) set_done
      ∙ ap (λ (x : State). x.registers) (done (with_new s (Full (xor_all 24 (master_parts s c)))) (set_request c.role) permits_set.permitted)

  pub rest_stays : (c.now.roles ≡ s.roles) × ((label : List ℕ) → clear_of_label c.now label ≡ clear_of_label s label)
  rest_stays =
      let t : State = with_new s (Full (xor_all 24 (master_parts s c))) in (
        ap (λ (x : State). x.roles) set_done ∙ ap (λ (x : State). x.roles) (done t (set_request c.role) permits_set.permitted),
        λ label. ap (λ (x : State). clear_of_label x label) set_done ∙ aging_keeps t [] label (set_request c.role) refl,
      )

  -- all parts but one say nothing of the master key
  pub others_say_nothing : (before after : List (List ℕ)) (part master : List ℕ) → master_parts s c ≡ before ++ part ∷ after → AreBytes 24 master
      → (other : List ℕ) × IsOnlyPart 24 before after master other
  others_say_nothing before after part master are is =
      let all : All (AreBytes 24) (before ++ part ∷ after) = subst (All (AreBytes 24)) are parts_long in
      only_part 24 before after master (front_of (AreBytes 24) before (part ∷ after) all)
      (All-tail (AreBytes 24) part after (back_of (AreBytes 24) before (part ∷ after) all)) is

-- ---- one part alone

same_full : (one other : List ℕ) → Full one ≡ Full other → one ≡ other
same_full one other same = cc

pub only_last : (s : State) (held master : List ℕ) → s.registers.coming ≡ Partial held → AreBytes 24 held → AreBytes 24 master → IsOnlyLast s master (xor master held)
only_last s held master has is_held is_master = record {
  bytes = bytes-xor 24 master held is_master is_held;
  makes = λ c permits is.
      left c permits
      ∙ ap (λ key. Full key) (ap (xor held) (is ∙ xor-comm master held) ∙ xor-again held master (is_held.size ∙ sym is_master.size));
  only = λ c permits makes.
      let part : AreBytes 24 (bytes_of c) = part_bytes s (codes "LAST") c permits in
      let key : xor held (bytes_of c) ≡ master = same_full _ _ (sym (left c permits) ∙ makes) in
      sym (xor-again held (bytes_of c) (is_held.size ∙ sym part.size)) ∙ (ap (xor held) key ∙ xor-comm held master);
}
  where
    left : (c : Custodian) → IsPermitted s (part_request (codes "LAST") c) → after_last_part s c ≡ Full (xor held (bytes_of c))
    left c permits =
        ap (λ (x : State). x.registers.coming) (part_done s (codes "LAST") c permits)
        ∙ ap (λ (new : NewRegister). Full (xor (new_bytes new) (bytes_of c))) has
