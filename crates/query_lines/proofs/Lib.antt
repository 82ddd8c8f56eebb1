pub mod Appending
pub mod Contents
pub mod Fitting
pub mod ItemByItem
pub mod Objects
pub mod TokenWeights
pub mod ValueWeights
