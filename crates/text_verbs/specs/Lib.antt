pub mod CodePurposes
pub mod TextWorks
pub mod WholeTexts
