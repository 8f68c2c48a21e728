pub mod LegalLemmas
pub mod CallLemmas
