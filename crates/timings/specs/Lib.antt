-- Every timing: worlds that differ in what their chips have applied, and observations; and what `outcomes` and `explain` say.
pub mod Timings
pub mod Reading
pub mod Explained
pub mod Greedy
pub mod Rows
pub mod Outcomes
pub mod Answers
pub mod InputForms
pub mod Inputs
pub mod Replies
pub mod OutcomesText
pub mod ExplainText
pub mod Telling
pub mod Refuted
pub mod Worked
pub mod InputLines
pub mod Meanwhile
