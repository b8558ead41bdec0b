pub mod SideLawLemmas
