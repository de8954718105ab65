pub mod BenchColumn
