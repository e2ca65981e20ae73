use Rattle.std.proofs.Common.{ap}
use Rattle.text_verbs.specs.TextWorks.{work_request}
use Rattle.text_verbs.specs.declared.works.TextWork.{TextWork}
use Rattle.text_verbs.proofs.TextWorks.{settled_as}
use Rattle.text_verbs.proofs.works.over_text.Goals as goal

pub returns-in-Whole : goal.returns-in-Whole
returns-in-Whole c = record {
  settles = λ verifies role key segment.
      settled_as (ap (λ (w : TextWork). work_request w verifies role key segment) c.in-Whole.is) (c.whole_text.ensures.settles role key);
}

pub returns-in-First : goal.returns-in-First
returns-in-First c = record {
  settles = λ verifies role key segment.
      settled_as (ap (λ (w : TextWork). work_request w verifies role key segment) c.in-First.is) (c.first_segment.ensures.settles role key segment);
}

pub returns-in-Middle : goal.returns-in-Middle
returns-in-Middle c = record {
  settles = λ verifies role key segment.
      settled_as (ap (λ (w : TextWork). work_request w verifies role key segment) c.in-Middle.is) (c.middle_segment.ensures.settles role key segment);
}

pub returns-in-Last : goal.returns-in-Last
returns-in-Last c = record {
  settles = λ verifies role key segment.
      settled_as (ap (λ (w : TextWork). work_request w verifies role key segment) c.in-Last.is) (c.last_segment.ensures.settles role key segment);
}

pub returns-in-WholeCode : goal.returns-in-WholeCode
returns-in-WholeCode c = record {
  settles = λ verifies role key segment.
      settled_as (ap (λ (w : TextWork). work_request w verifies role key segment) c.in-WholeCode.is) (c.whole_code.ensures.settles role key);
}

pub returns-in-FirstCode : goal.returns-in-FirstCode
returns-in-FirstCode c = record {
  settles = λ verifies role key segment.
      settled_as (ap (λ (w : TextWork). work_request w verifies role key segment) c.in-FirstCode.is) (c.first_code_segment.ensures.settles verifies role key segment);
}

pub returns-in-MiddleCode : goal.returns-in-MiddleCode
returns-in-MiddleCode c = record {
  settles = λ verifies role key segment.
      settled_as (ap (λ (w : TextWork). work_request w verifies role key segment) c.in-MiddleCode.is) (c.middle_code_segment.ensures.settles verifies role key segment);
}

pub returns-in-LastCode : goal.returns-in-LastCode
returns-in-LastCode c = record {
  settles = λ verifies role key segment.
      settled_as (ap (λ (w : TextWork). work_request w verifies role key segment) c.in-LastCode.is) (c.last_code_segment.ensures.settles role key segment);
}
