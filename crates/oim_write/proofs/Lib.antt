pub mod Shared
mod Compared
pub mod BoundedRuns
pub mod Ranks
pub mod Padded
pub mod UriSets
pub mod Measures
pub mod Passing
pub mod Tokens
pub mod WrittenOrder
pub mod PieceTexts
pub mod NumberedFacts
pub mod SpelledFacts
pub mod Namespaces
pub mod PlainTrees
pub mod FirstKeys
