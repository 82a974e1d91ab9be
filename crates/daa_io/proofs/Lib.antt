pub mod PiecesLemmas
pub mod ShelfLemmas
