-- Which request over a text is worked on.
use Rattle.std.specs.Prelude.{◌≡◌, ℕ, Bool, List, [], ◌∷◌, ⊤, IsTrue}
use Rattle.text_segments.specs.Segments.{IsCipher}
use Rattle.verb_script.specs.Grammar.{Request, is_hex}
use Rattle.cca_machine.specs.CutRequests.{first_code_row, first_row, last_row, middle_code_row, middle_row}
use Rattle.text_verbs.specs.CodePurposes.{IsPurpose, last_code_row, purpose_text, whole_code_row}
use Rattle.cca_machine.specs.declared.granted.Granted.{Granted}
use Rattle.cca_machine.specs.Decided.{HasTextFor, asked}
use Rattle.text_verbs.specs.WholeTexts.{whole_row}
use Rattle.text_verbs.specs.declared.works.TextWork.{TextWork}
use Rattle.text_verbs.specs.declared.works.TextWork.TheVariants.{Whole, First, Middle, Last, WholeCode, FirstCode, MiddleCode, LastCode}

-- The request, with its role, its key and its word for the segment; of a segment whose chain alone is shown, whether it is
-- of a code that is verified.
abbrev pub work_request : TextWork → Bool → List ℕ → List ℕ → List ℕ → Request
work_request (Whole mode iv pad text) verifies role key segment =
    asked (whole_row mode) (role ∷ key ∷ iv.now ∷ pad.now ∷ text.now ∷ [])
work_request (First mode iv text) verifies role key segment =
    asked (first_row mode) (role ∷ key ∷ segment ∷ iv.now ∷ text.now ∷ [])
work_request (Middle mode chain text) verifies role key segment =
    asked (middle_row mode) (role ∷ key ∷ segment ∷ chain.now ∷ text.now ∷ [])
work_request (Last mode chain pad text) verifies role key segment =
    asked (last_row mode) (role ∷ key ∷ segment ∷ chain.now ∷ pad.now ∷ text.now ∷ [])
work_request (WholeCode rule purpose text) verifies role key segment =
    asked (whole_code_row purpose) (role ∷ key ∷ rule.now ∷ purpose_text purpose ∷ text.now ∷ [])
work_request (FirstCode rule text) verifies role key segment =
    asked (first_code_row verifies) (role ∷ key ∷ rule.now ∷ segment ∷ text.now ∷ [])
work_request (MiddleCode rule chain text) verifies role key segment =
    asked (middle_code_row verifies) (role ∷ key ∷ rule.now ∷ segment ∷ chain.now ∷ text.now ∷ [])
work_request (LastCode rule chain purpose text) verifies role key segment =
    asked (last_code_row purpose) (role ∷ key ∷ rule.now ∷ segment ∷ purpose_text purpose ∷ chain.now ∷ text.now ∷ [])

abbrev pub work_text : TextWork → List ℕ
work_text (Whole mode iv pad text) = text.now
work_text (First mode iv text) = text.now
work_text (Middle mode chain text) = text.now
work_text (Last mode chain pad text) = text.now
work_text (WholeCode rule purpose text) = text.now
work_text (FirstCode rule text) = text.now
work_text (MiddleCode rule chain text) = text.now
work_text (LastCode rule chain purpose text) = text.now

-- a text that is enciphered or deciphered, where it isn't one of a code
abbrev pub HasCipher : TextWork → Type 0
HasCipher (Whole mode iv pad text) = IsCipher mode
HasCipher (First mode iv text) = IsCipher mode
HasCipher (Middle mode chain text) = IsCipher mode
HasCipher (Last mode chain pad text) = IsCipher mode
HasCipher (WholeCode rule purpose text) = ⊤
HasCipher (FirstCode rule text) = ⊤
HasCipher (MiddleCode rule chain text) = ⊤
HasCipher (LastCode rule chain purpose text) = ⊤

-- its fields say what they may
abbrev pub IsWork : TextWork → Type 0
IsWork (Whole mode iv pad text) = IsCipher mode × IsTrue (is_hex 16 iv.now)
IsWork (First mode iv text) = IsCipher mode × IsTrue (is_hex 16 iv.now)
IsWork (Middle mode chain text) = IsCipher mode × IsTrue (is_hex 32 chain.now)
IsWork (Last mode chain pad text) = IsCipher mode × IsTrue (is_hex 32 chain.now)
IsWork (WholeCode rule purpose text) = IsPurpose purpose
IsWork (FirstCode rule text) = ⊤
IsWork (MiddleCode rule chain text) = IsTrue (is_hex 32 chain.now)
IsWork (LastCode rule chain purpose text) = IsPurpose purpose × IsTrue (is_hex 32 chain.now)

-- what it rests on
pub record MayWork (granted : Granted) (work : TextWork) (reply : List ℕ) : Type 0 where
  pub given : HasTextFor granted (work_text work) reply
  pub fields : IsWork work

-- the request is the one that is worked on
pub record IsWorkOf (request : Request) (work : TextWork) : Type 0 where
  pub verifies : Bool
  pub role : List ℕ
  pub key : List ℕ
  pub segment : List ℕ
  pub is : request ≡ work_request work verifies role key segment
  pub cipher : HasCipher work
