pub mod LawWords
