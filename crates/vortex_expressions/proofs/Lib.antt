pub mod Chains
pub mod Lasts
pub mod Whole
pub mod Stopping
pub mod Settling
pub mod Quoting
pub mod Walking
pub mod Options
mod KindPlaces
pub mod FirstKinds
pub mod MetTypes
pub mod FunctionNames
pub mod NamedSyntax
pub mod PlainItems
pub mod SyntaxLevels
pub mod SyntaxNests
pub mod SyntaxWritten
pub mod LiteralsBack
pub mod Beside
pub mod TypedCalls
pub mod TruthsBack
pub mod NamedBack
pub mod CallsBack
pub mod JoinedTokens
pub mod NamedTokens
pub mod PartTokens
pub mod Walked
mod AlignedCases
pub mod Answered
pub mod ReadBack
pub mod LiteralsOver
pub mod ReadOver
pub mod Saying
pub mod Finding
pub mod SureCalls
pub mod SureKinds
pub mod SureKindFunctions
mod SureTexts
mod SureTruths
pub mod Sure
pub mod Why
pub mod Likened
pub mod Counted
pub mod Listing
mod FunctionRows
mod TextRows
