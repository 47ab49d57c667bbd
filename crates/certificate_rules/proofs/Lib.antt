pub mod AcceptLemmas
pub mod CertRows
pub mod SweptRows
pub mod FailLemmas
pub mod LeastLemmas
pub mod LowLemmas
pub mod LowRows
pub mod TreeLemmas
