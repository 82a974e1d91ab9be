pub mod Board
pub mod Band
pub mod KindBands
pub mod Walk
pub mod Parts
