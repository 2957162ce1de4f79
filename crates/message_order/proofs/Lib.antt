mod Filling
mod OneOrder
