pub mod LeastNumber
