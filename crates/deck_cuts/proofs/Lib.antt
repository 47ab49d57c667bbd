pub mod HitLemmas
