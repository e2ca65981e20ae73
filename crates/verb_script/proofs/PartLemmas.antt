-- What a request says of itself is what the row says that it is.
use Rattle.std.proofs.Common.{◌≡◌, codes, sym, subst}
use Rattle.verb_script.specs.Grammar.{row_of, value_of}
use Rattle.verb_script.specs.Parsed.{seen}
use Rattle.verb_script.specs.Parts.{Says, first_label}
use Rattle.verb_script.specs.declared.parts.Parts.{Parts}
use Rattle.verb_script.specs.declared.request.Request.{Request as Parsed}

abbrev SaysOf : Parts → Parsed → Type 0
SaysOf given request = Says (row_of (seen request).name).verb (value_of (seen request) (codes "role")) (first_label (seen request)) given

pub says_of : (request row : Parsed) (given : Parts) → request ≡ row → SaysOf given row → SaysOf given request
says_of request row given is said = subst (SaysOf given) (sym is) said
