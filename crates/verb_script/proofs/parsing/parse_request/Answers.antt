-- The request that the words give is the one that the grammar's table says.
use Rattle.std.proofs.Common.{◌≡◌, Result, Ok, Err, sym, ◌∙◌}
use Rattle.std.specs.Prelude.{IfOk}
use Rattle.verb_script.proofs.GrammarLaws.{request_of-sound, request_of-complete, spelled_parts}
use Rattle.verb_script.specs.Grammar.{Spells, IsOfParts}
use Rattle.verb_script.specs.Parsed.{answered, seen}
use Rattle.verb_script.specs.Requests.{request_of}
use Rattle.verb_script.specs.declared.request.FormFault.{FormFault}
use Rattle.verb_script.specs.declared.request.Request.{Request as Parsed}
use Rattle.verb_script.proofs.parsing.parse_request.Goals as goal

sound : (line : _) (r : Result Parsed FormFault) → answered r ≡ request_of line → IfOk r (λ request. Spells (seen request) line)
sound line (Ok request) h = request_of-sound line (seen request) (sym h)
sound line (Err fault) h = tt

of_parts : (line : _) (r : Result Parsed FormFault) → answered r ≡ request_of line → IfOk r (λ request. IsOfParts (seen request) line)
of_parts line (Ok request) h = spelled_parts (seen request) line (request_of-sound line (seen request) (sym h))
of_parts line (Err fault) h = tt

pub returns-clause-found : goal.returns-clause-found
returns-clause-found c = sound c.args.line.now c.parsed.result c.parsed.ensures

pub returns-clause-parts : goal.returns-clause-parts
returns-clause-parts c = of_parts c.args.line.now c.parsed.result c.parsed.ensures

pub returns-clause-only : goal.returns-clause-only
returns-clause-only c = λ request h. c.parsed.ensures ∙ request_of-complete c.args.line.now request h
