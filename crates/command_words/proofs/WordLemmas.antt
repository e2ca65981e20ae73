-- Which words are a command.
use Rattle.std.proofs.Common.{◌≡◌, ℕ, ◌<◌, ◌≤◌, List, [], ◌∷◌, length, get_or, map, Option, None, Some, Result, Ok, Err, codes, decimal, sym, ap, ◌∙◌, subst, arith}
use Rattle.std.specs.Prelude.{◌↔◌}
use Rattle.std.specs.Str.Parse.{ParsesUnsigned}
use Rattle.std.proofs.lemmas.Fmt.{parse-decimal}
use Rattle.command_words.specs.Demo.{IsDemo}
use Rattle.command_words.specs.declared.words.Command.{Command}
use Rattle.command_words.specs.declared.words.Command.TheVariants.{Demo}

abbrev pub IsSmall : List ℕ → ℕ → Type 0
IsSmall word n = (word ≡ decimal n) × (1 ≤ n) × (n ≤ 1000)

same_ok : {E : Type 0} (m n : ℕ) → ◌≡◌ {A = Result ℕ E} (Ok m) (Ok n) → m ≡ n
same_ok m n h = cc h

same_some : (m n : ℕ) → ◌≡◌ {A = Option ℕ} (Some m) (Some n) → m ≡ n
same_some m n h = cc h

no_some : (n : ℕ) → ◌≡◌ {A = Option ℕ} None (Some n) → ⊥
no_some n h = cc h

no_ok : {E : Type 0} (e : E) (n : ℕ) → ◌≡◌ {A = Result ℕ E} (Err e) (Ok n) → ⊥
no_ok e n h = cc h

module _ {E : Type 0} (word : List ℕ) (r : Result ℕ E) (parses : ParsesUnsigned 32 10 word r) where
  parsed : (n : ℕ) → IsSmall word n → r ≡ Ok n
  parsed n small = parse-decimal 32 n word r (omega (arith, small.2)) (omega (arith, small.2)) small.0 parses

  pub unparsed : (e : E) → r ≡ Err e → (n : ℕ) → (None ≡ Some n) ↔ IsSmall word n
  unparsed e is n = (λ h. absurd (no_some n h), λ small. absurd (no_ok e n (sym is ∙ parsed n small)))

  pub is_small : (m : ℕ) → r ≡ Ok m → IsSmall word m → (n : ℕ) → (Some m ≡ Some n) ↔ IsSmall word n
  is_small m is small n = (λ h. subst (IsSmall word) (same_some m n h) small, λ other. ap Some (same_ok m n (sym is ∙ parsed n other)))

  pub not_small : (m : ℕ) → r ≡ Ok m → (IsSmall word m → ⊥) → (n : ℕ) → (None ≡ Some n) ↔ IsSmall word n
  not_small m is large n =
      (λ h. absurd (no_some n h), λ small. absurd (large (subst (IsSmall word) (sym (same_ok m n (sym is ∙ parsed n small))) small)))

-- two words

second_of : (a b c d : List ℕ) → a ∷ b ∷ [] ≡ c ∷ d ∷ [] → b ≡ d
second_of a b c d h = cc h

pub two_words : (word number : List ℕ) (r : Option ℕ) → word ≡ codes "demo" → ((n : ℕ) → (r ≡ Some n) ↔ IsSmall number n)
    → (n : ℕ) → (r ≡ Some n) ↔ IsDemo n (word ∷ number ∷ [])
two_words word number r demo is n = (
  λ h. let small = (is n).0 h in record {
    words_are = ap (λ w. w ∷ number ∷ []) demo ∙ ap (λ w. codes "demo" ∷ w ∷ []) small.0;
    some = small.1;
    few = small.2;
  },
  λ demo_is. (is n).1 (second_of word number (codes "demo") (decimal n) demo_is.words_are, demo_is.some, demo_is.few),
)

-- a list of two texts
two_elements : {A : Type 0} (xs : List A) (x y : A) → 2 ≤ length xs → length xs < 3 → x ≡ get_or xs 0 x → y ≡ get_or xs 1 y → xs ≡ x ∷ y ∷ []
two_elements [] x y some below first second = absurd (omega arith)
two_elements (a ∷ []) x y some below first second = absurd (omega arith)
two_elements (a ∷ b ∷ []) x y some below first second = ap (λ z. z ∷ b ∷ []) (sym first) ∙ ap (λ z. x ∷ z ∷ []) (sym second)
two_elements (a ∷ b ∷ c ∷ zs) x y some below first second = absurd (omega arith)

pub two_texts : {A : Type 0} (text_of : A → List ℕ) (xs : List A) (x y : A) (texts : List (List ℕ)) (a b : List ℕ)
    → map text_of xs ≡ texts → 2 ≤ length xs → length xs < 3 → x ≡ get_or xs 0 x → y ≡ get_or xs 1 y → a ≡ text_of x → b ≡ text_of y
    → a ∷ b ∷ [] ≡ texts
two_texts text_of xs x y texts a b shown some below first second first_is second_is =
    ap (λ z. z ∷ b ∷ []) first_is ∙ (ap (λ z. text_of x ∷ z ∷ []) second_is ∙ (ap (map text_of) (sym (two_elements xs x y some below first second)) ∙ shown))

-- not both commands
pub not_both : (n : ℕ) (words : List (List ℕ)) → words ≡ codes "run" ∷ [] → IsDemo n words → ⊥
not_both n words run demo = differ (sym run ∙ demo.words_are)
  where
    differ : ◌≡◌ {A = List (List ℕ)} (codes "run" ∷ []) (codes "demo" ∷ decimal n ∷ []) → ⊥
    differ h = omega (arith, ap length h)

same_demo : (m n : ℕ) → ◌≡◌ {A = Option Command} (Some (Demo m)) (Some (Demo n)) → m ≡ n
same_demo m n h = cc h

pub demo_command : (r : Option ℕ) (m : ℕ) (words : List (List ℕ)) → r ≡ Some m → ((n : ℕ) → (r ≡ Some n) ↔ IsDemo n words)
    → (n : ℕ) → (◌≡◌ {A = Option Command} (Some (Demo m)) (Some (Demo n))) ↔ IsDemo n words
demo_command r m words is demo n = (
  λ h. (demo n).0 (is ∙ ap Some (same_demo m n h)),
  λ other. ap (λ x. Some (Demo x)) (same_some m n (sym is ∙ (demo n).1 other)),
)

module _ (r : Option Command) (x : Command) (m : ℕ) (words : List (List ℕ)) (is : r ≡ Some x) (demo_is : x ≡ Demo m)
    (asks : (n : ℕ) → (r ≡ Some (Demo n)) ↔ IsDemo n words) where
  the_command : r ≡ Some (Demo m)
  the_command = is ∙ ap (λ (y : Command). Some y) demo_is

  pub the_number : IsDemo m words
  the_number = (asks m).0 the_command

  pub one_number : (n : ℕ) → IsDemo n words → m ≡ n
  one_number n demo = same_demo m n (sym the_command ∙ (asks n).1 demo)
